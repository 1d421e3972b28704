-- Lists that grow by one name.
use Rattle.std.proofs.Common.{◌≡◌, ℕ, ◌+◌, ◌<◌, Bool, true, false, true≢false, cond, not, ◌||◌, List, [], ◌∷◌, ◌++◌, length, get_or, take, slice_get, Some, map, filter, bytes_eq, refl, sym, ap, ◌∙◌, add-one, append_assoc, append-nil}
use Rattle.std.specs.List.{list_any}
use Rattle.std.proofs.lemmas.List.{map-append}
use Rattle.std.proofs.lemmas.List.Elements.{filter-append}
use Rattle.std.proofs.lemmas.List.Folds.{list_any_at}
use Rattle.std.proofs.Math.Seq.{take-suc}
use Rattle.process_job.specs.Jobs as process
use Rattle.process_job.specs.Commands as command
use Rattle.process_job.specs.declared.job.ProcessJob.{ProcessJob}
use Rattle.records.proofs.Scans.{take_here}
use Rattle.gem_tables.specs.declared.firing.Firing.{Firing}
use Rattle.records.proofs.Texts.{same_name, turned}
use Rattle.tool_tasks.specs.declared.words.JobWord.TheVariants.{Cancel}
use Rattle.control_job.specs.Names.{is_in}
use Rattle.tool_jobs.specs.Jobs.{Jobs}
use Rattle.request_model.specs.Requests.{at_process, command_rows, is_queued, each_once, cancel_rows}

-- one more is taken
pub take_more : {X : Type 0} (xs : List X) (i : ℕ) (x : X) → i < length xs → x ≡ get_or xs i x → take (i + 1) xs ≡ take i xs ++ x ∷ []
take_more xs i x l e = ap (λ (n : ℕ). take n xs) (add-one i) ∙ take-suc xs i x l ∙ ap (λ y. take i xs ++ y ∷ []) (sym e)

-- where none fails a test, each passes it
pub passes : (test : List ℕ → Bool) (ns : List (List ℕ)) (i : ℕ) (d : List ℕ) → i < length ns → list_any (λ n. not (test n)) ns ≡ false → test (get_or ns i d) ≡ true
passes test ns i d l e = by_test (test (get_or ns i d)) refl where
  by_test : (b : Bool) → test (get_or ns i d) ≡ b → b ≡ true
  by_test true t = refl
  by_test false t = absurd (true≢false (sym (list_any_at (λ n. not (test n)) ns i d l (ap not t)) ∙ e))

-- ---- what is picked of a list

module _ {X Y : Type 0} (test : X → Bool) (made : X → Y) where
  pub picked : (xs : List X) (x : X) → map made (filter test (xs ++ x ∷ [])) ≡ cond (test x) (map made (filter test xs) ++ made x ∷ []) (map made (filter test xs))
  picked xs x = ap (map made) (filter-append test xs (x ∷ [])) ∙ by_test (test x) refl where
    by_test : (b : Bool) → test x ≡ b → map made (filter test xs ++ cond b (x ∷ []) []) ≡ cond b (map made (filter test xs) ++ made x ∷ []) (map made (filter test xs))
    by_test true t = map-append made (filter test xs) (x ∷ [])
    by_test false t = ap (map made) (append-nil (filter test xs))

-- ---- names, each once

-- what isn't among some isn't among fewer
any_fewer : {X : Type 0} (p q : X → Bool) (xs : List X) → list_any q xs ≡ false → list_any q (filter p xs) ≡ false
any_fewer p q [] e = refl
any_fewer p q (x ∷ xs) e = by_test (p x) (q x) refl e (any_fewer p q xs) where
  by_test : (a b : Bool) → q x ≡ b → (b || list_any q xs) ≡ false → (list_any q xs ≡ false → list_any q (filter p xs) ≡ false) → list_any q (cond a (x ∷ filter p xs) (filter p xs)) ≡ false
  by_test a true t f later = absurd (true≢false f)
  by_test true false t f later = rw t (later f)
  by_test false false t f later = later f

-- another name stays among some without one
stays_in : (n x : List ℕ) (ns : List (List ℕ)) → bytes_eq n x ≡ false → is_in x ns ≡ true → is_in x (filter (λ m. not (bytes_eq m n)) ns) ≡ true
stays_in n x [] f e = e
stays_in n x (m ∷ ms) f e = by_test (bytes_eq m x) (bytes_eq m n) refl refl e (stays_in n x ms f) where
  by_test : (a b : Bool) → bytes_eq m x ≡ a → bytes_eq m n ≡ b → (a || is_in x ms) ≡ true → (is_in x ms ≡ true → is_in x (filter (λ k. not (bytes_eq k n)) ms) ≡ true) →
      is_in x (cond (not b) (m ∷ filter (λ k. not (bytes_eq k n)) ms) (filter (λ k. not (bytes_eq k n)) ms)) ≡ true
  by_test true true t u g later =
      let same : m ≡ x = same_name m x t in
      absurd (true≢false (sym u ∙ turned m n ∙ ap (bytes_eq n) same ∙ f))
  by_test true false t u g later = rw t refl
  by_test false true t u g later = later g
  by_test false false t u g later = rw t (later g)

pub once_more : (ns : List (List ℕ)) (x : List ℕ) → each_once (ns ++ x ∷ []) ≡ cond (is_in x (each_once ns)) (each_once ns) (each_once ns ++ x ∷ [])
once_more [] x = refl
once_more (n ∷ ns) x = ap (λ (ms : List (List ℕ)). n ∷ filter (λ m. not (bytes_eq m n)) ms) (once_more ns x) ∙ by_test (is_in x (each_once ns)) (bytes_eq n x) refl refl where
  by_test : (a b : Bool) → is_in x (each_once ns) ≡ a → bytes_eq n x ≡ b →
      n ∷ filter (λ m. not (bytes_eq m n)) (cond a (each_once ns) (each_once ns ++ x ∷ []))
      ≡ cond (b || is_in x (filter (λ m. not (bytes_eq m n)) (each_once ns))) (n ∷ filter (λ m. not (bytes_eq m n)) (each_once ns)) (n ∷ (filter (λ m. not (bytes_eq m n)) (each_once ns) ++ x ∷ []))
  by_test true true e f = refl
  by_test true false e f = rw (stays_in n x (each_once ns) f e) refl
  by_test false true e f = ap (λ (ms : List (List ℕ)). n ∷ ms) (filter-append (λ m. not (bytes_eq m n)) (each_once ns) (x ∷ []) ∙ gone) where
    gone : filter (λ m. not (bytes_eq m n)) (each_once ns) ++ filter (λ m. not (bytes_eq m n)) (x ∷ []) ≡ filter (λ m. not (bytes_eq m n)) (each_once ns)
    gone = rw (turned x n ∙ f) (append-nil (filter (λ m. not (bytes_eq m n)) (each_once ns)))
  by_test false false e f = rw (any_fewer (λ m. not (bytes_eq m n)) (λ m. bytes_eq m x) (each_once ns) e) (ap (λ (ms : List (List ℕ)). n ∷ ms) (filter-append (λ m. not (bytes_eq m n)) (each_once ns) (x ∷ []) ∙ kept)) where
    kept : filter (λ m. not (bytes_eq m n)) (each_once ns) ++ filter (λ m. not (bytes_eq m n)) (x ∷ []) ≡ filter (λ m. not (bytes_eq m n)) (each_once ns) ++ x ∷ []
    kept = rw (turned x n ∙ f) refl

-- ---- rows of names

pub rows_more : (ns : List (List ℕ)) (x : List ℕ) (w : Jobs) → cancel_rows (ns ++ x ∷ []) w ≡ cancel_rows ns w ++ at_process (command.row_of Cancel) (process.job_named x w.process.kept)
rows_more [] x w = append-nil (at_process (command.row_of Cancel) (process.job_named x w.process.kept))
rows_more (n ∷ ns) x w =
    let first = at_process (command.row_of Cancel) (process.job_named n w.process.kept) in
    ap (λ rows. first ++ rows) (rows_more ns x w)
    ∙ sym (append_assoc first (cancel_rows ns w) (at_process (command.row_of Cancel) (process.job_named x w.process.kept)))

-- ---- the steps of the loops

pub once_step : (names : List (List ℕ)) (i : ℕ) (x : List ℕ) (once : List (List ℕ)) → i < length names → x ≡ get_or names i x → once ≡ each_once (take i names) →
    cond (is_in x once) once (once ++ x ∷ []) ≡ each_once (take (i + 1) names)
once_step names i x once l e o =
    sym (ap each_once (take_more names i x l e)
    ∙ once_more (take i names) x
    ∙ ap (λ (ns : List (List ℕ)). cond (is_in x ns) ns (ns ++ x ∷ [])) (sym o))

pub queued_step : (kept : List ProcessJob) (place : ℕ) (j : ProcessJob) (names : List (List ℕ)) → slice_get kept place ≡ Some j → names ≡ map (λ k. k.id) (filter is_queued (take place kept)) →
    cond (is_queued j) (names ++ j.id ∷ []) names ≡ map (λ k. k.id) (filter is_queued (take (place + 1) kept))
queued_step kept place j names e n =
    sym (ap (λ (js : List ProcessJob). map (λ k. k.id) (filter is_queued js)) (take_here kept place j e)
    ∙ picked is_queued (λ k. k.id) (take place kept) j
    ∙ ap (λ (ns : List (List ℕ)). cond (is_queued j) (ns ++ j.id ∷ []) ns) (sym n))

pub rows_step : (names : List (List ℕ)) (i : ℕ) (x : List ℕ) (w : Jobs) (rows more : List Firing) → i < length names → x ≡ get_or names i x → rows ≡ cancel_rows (take i names) w → more ≡ command_rows x Cancel w →
    rows ++ more ≡ cancel_rows (take (i + 1) names) w
rows_step names i x w rows more l e r m =
    ap (λ (rs : List Firing). rs ++ more) r
    ∙ ap (λ (rs : List Firing). cancel_rows (take i names) w ++ rs) m
    ∙ sym (ap (λ (ns : List (List ℕ)). cancel_rows ns w) (take_more names i x l e) ∙ rows_more (take i names) x w)
