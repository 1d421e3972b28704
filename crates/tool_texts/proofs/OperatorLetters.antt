-- The first letter of an operator's words tells which of them they may be.
use Rattle.std.proofs.Common.{◌≡◌, ℕ, ◌-◌, List, [], ◌∷◌, length, codes, Some, None, slice_get, Result, Err, ap, ◌∙◌, arith}
use Rattle.std.proofs.lemmas.Bool.{ne_eqb}
use Rattle.tool_events.specs.declared.event.OperCmd.{OperCmd}
use Rattle.tool_events.specs.declared.event.OperCmd.TheVariants as oper
use Rattle.line_grammar.specs.Grammar.{says}
use Rattle.line_grammar.specs.Lines.{operator_words, service_words, access_words, job_words, control_job_words, up_words, clear_words, lost_words}
use Rattle.line_grammar.specs.Reading.{read, either_of, end_at, literal_at}
use Rattle.tool_texts.proofs.Letters.{behind}
use Rattle.tool_texts.proofs.Leaving.{leave, reaches_more, then_nothing, again, alone, both}

pub enable_word : (total : ℕ) (text : List ℕ) → slice_get text 0 ≡ Some 101 → read operator_words total text ≡ either_of (read (says (codes "enable") oper.Enable) total text) (Err (total - length text))
unfolding operator_words service_words access_words job_words control_job_words up_words clear_words lost_words end_at literal_at
enable_word total [] is = cc
enable_word total (b ∷ cs) is = let first : b ≡ 101 = cc in rw first (then_nothing 12 (total - length (101 ∷ cs)) (either_of (read (says (codes "enable") oper.Enable) total (101 ∷ cs)) (Err (total - length (101 ∷ cs)))) (again (total - length (101 ∷ cs)) (read (says (codes "enable") oper.Enable) total (101 ∷ cs))))

pub disable_word : (total : ℕ) (text : List ℕ) → slice_get text 0 ≡ Some 100 → read operator_words total text ≡ either_of (Err (total - length text)) (read (says (codes "disable") oper.Disable) total text)
unfolding operator_words service_words access_words job_words control_job_words up_words clear_words lost_words end_at literal_at
disable_word total [] is = cc
disable_word total (b ∷ cs) is = let first : b ≡ 100 = cc in rw first (alone 0 12 (total - length (100 ∷ cs)) (read (says (codes "disable") oper.Disable) total (100 ∷ cs)))

pub line_words : (total : ℕ) (text : List ℕ) → slice_get text 0 ≡ Some 111 → read operator_words total text ≡ either_of (either_of (Err (total - length text)) (read (says (codes "online") oper.Online) total text)) (read (says (codes "offline") oper.Offline) total text)
unfolding operator_words service_words access_words job_words control_job_words up_words clear_words lost_words end_at literal_at
line_words total [] is = cc
line_words total (b ∷ cs) is = let first : b ≡ 111 = cc in rw first (both 1 10 (total - length (111 ∷ cs)) (read (says (codes "online") oper.Online) total (111 ∷ cs)) (read (says (codes "offline") oper.Offline) total (111 ∷ cs)))

pub local_lost_words : (total : ℕ) (text : List ℕ) → slice_get text 0 ≡ Some 108 → read operator_words total text ≡ either_of (either_of (Err (total - length text)) (read (says (codes "local") oper.Local) total text)) (read lost_words total text)
unfolding operator_words service_words access_words job_words control_job_words up_words clear_words lost_words end_at literal_at
local_lost_words total [] is = cc
local_lost_words total (b ∷ cs) is = let first : b ≡ 108 = cc in rw first (ap (λ (s : Result OperCmd ℕ). either_of s (read lost_words total (108 ∷ cs))) (alone 3 8 (total - length (108 ∷ cs)) (read (says (codes "local") oper.Local) total (108 ∷ cs))))

pub remote_word : (total : ℕ) (text : List ℕ) → slice_get text 0 ≡ Some 114 → read operator_words total text ≡ either_of (Err (total - length text)) (read (says (codes "remote") oper.Remote) total text)
unfolding operator_words service_words access_words job_words control_job_words up_words clear_words lost_words end_at literal_at
remote_word total [] is = cc
remote_word total (b ∷ cs) is = let first : b ≡ 114 = cc in rw first (alone 4 8 (total - length (114 ∷ cs)) (read (says (codes "remote") oper.Remote) total (114 ∷ cs)))

pub quit_word : (total : ℕ) (text : List ℕ) → slice_get text 0 ≡ Some 113 → read operator_words total text ≡ either_of (Err (total - length text)) (read (says (codes "quit") oper.Quit) total text)
unfolding operator_words service_words access_words job_words control_job_words up_words clear_words lost_words end_at literal_at
quit_word total [] is = cc
quit_word total (b ∷ cs) is = let first : b ≡ 113 = cc in rw first (alone 5 7 (total - length (113 ∷ cs)) (read (says (codes "quit") oper.Quit) total (113 ∷ cs)))

pub service_word : (total : ℕ) (text : List ℕ) → slice_get text 0 ≡ Some 115 → read operator_words total text ≡ either_of (Err (total - length text)) (read service_words total text)
unfolding operator_words service_words access_words job_words control_job_words up_words clear_words lost_words end_at literal_at
service_word total [] is = cc
service_word total (b ∷ cs) is = let first : b ≡ 115 = cc in rw first (alone 6 6 (total - length (115 ∷ cs)) (read service_words total (115 ∷ cs)))

pub access_word : (total : ℕ) (text : List ℕ) → slice_get text 0 ≡ Some 97 → read operator_words total text ≡ either_of (Err (total - length text)) (read access_words total text)
unfolding operator_words service_words access_words job_words control_job_words up_words clear_words lost_words end_at literal_at
access_word total [] is = cc
access_word total (b ∷ cs) is = let first : b ≡ 97 = cc in rw first (alone 7 5 (total - length (97 ∷ cs)) (read access_words total (97 ∷ cs)))

pub job_word : (total : ℕ) (text : List ℕ) → slice_get text 0 ≡ Some 112 → read operator_words total text ≡ either_of (Err (total - length text)) (read job_words total text)
unfolding operator_words service_words access_words job_words control_job_words up_words clear_words lost_words end_at literal_at
job_word total [] is = cc
job_word total (b ∷ cs) is = let first : b ≡ 112 = cc in rw first (alone 8 4 (total - length (112 ∷ cs)) (read job_words total (112 ∷ cs)))

pub control_clear_words : (total : ℕ) (text : List ℕ) → slice_get text 0 ≡ Some 99 → read operator_words total text ≡ either_of (either_of (Err (total - length text)) (read control_job_words total text)) (read clear_words total text)
unfolding operator_words service_words access_words job_words control_job_words up_words clear_words lost_words end_at literal_at
control_clear_words total [] is = cc
control_clear_words total (b ∷ cs) is = let first : b ≡ 99 = cc in rw first (ap (λ (s : Result OperCmd ℕ). either_of (either_of s (read clear_words total (99 ∷ cs))) (Err (total - length (99 ∷ cs)))) (alone 9 1 (total - length (99 ∷ cs)) (read control_job_words total (99 ∷ cs))) ∙ reaches_more (total - length (99 ∷ cs)) (either_of (Err (total - length (99 ∷ cs))) (read control_job_words total (99 ∷ cs))) (read clear_words total (99 ∷ cs)) (behind (total - length (99 ∷ cs)) (read control_job_words total (99 ∷ cs))))

pub up_word : (total : ℕ) (text : List ℕ) → slice_get text 0 ≡ Some 117 → read operator_words total text ≡ either_of (Err (total - length text)) (read up_words total text)
unfolding operator_words service_words access_words job_words control_job_words up_words clear_words lost_words end_at literal_at
up_word total [] is = cc
up_word total (b ∷ cs) is = let first : b ≡ 117 = cc in rw first (alone 10 2 (total - length (117 ∷ cs)) (read up_words total (117 ∷ cs)))

-- no word is empty
pub no_words : (total : ℕ) (text : List ℕ) → slice_get text 0 ≡ None → read operator_words total text ≡ Err (total - length text)
unfolding operator_words service_words access_words job_words control_job_words up_words clear_words lost_words end_at literal_at
no_words total [] is = let whole : total - length {A = ℕ} [] ≡ total = omega arith in rw whole (leave 13 total)
no_words total (b ∷ cs) is = cc

-- and none begins with another letter
pub other_words : (total b : ℕ) (text : List ℕ) → slice_get text 0 ≡ Some b → (b ≡ 101 → ⊥) → (b ≡ 100 → ⊥) → (b ≡ 111 → ⊥) → (b ≡ 108 → ⊥) → (b ≡ 114 → ⊥) → (b ≡ 113 → ⊥) → (b ≡ 115 → ⊥) → (b ≡ 97 → ⊥) → (b ≡ 112 → ⊥) → (b ≡ 99 → ⊥) → (b ≡ 117 → ⊥) → read operator_words total text ≡ Err (total - length text)
unfolding operator_words service_words access_words job_words control_job_words up_words clear_words lost_words end_at literal_at
other_words total b [] is e d o l r q s a p c u = cc
other_words total b (x ∷ cs) is e d o l r q s a p c u =
    let first : x ≡ b = cc in
    rw (first, ne_eqb b 101 e, ne_eqb b 100 d, ne_eqb b 111 o, ne_eqb b 108 l, ne_eqb b 114 r, ne_eqb b 113 q, ne_eqb b 115 s, ne_eqb b 97 a, ne_eqb b 112 p, ne_eqb b 99 c, ne_eqb b 117 u) (leave 13 (total - length (b ∷ cs)))
