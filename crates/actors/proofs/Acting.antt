-- What a module has done so far, and how it ends.
use Rattle.std.proofs.Common.{◌≡◌, inl, inr, ℕ, zero, suc, List, [], ◌∷◌, ◌++◌, length, refl, sym, subst, ap, ◌∙◌, append-nil, append_assoc, add-one, Result, Ok, IfOk}
use Rattle.gem_ids.specs.declared.numbers.ModuleId.{ModuleId}
use Rattle.tool_events.specs.declared.entry.Post.{Post}
use Rattle.tool_events.specs.declared.event.Signal.{Signal}
use Rattle.tool_events.specs.declared.answer.Answer.{Answer}
use Rattle.tool_events.specs.declared.answer.Answer.TheVariants as answer
use Rattle.tool_tasks.specs.declared.task.Command.{Command}
use Rattle.tool_events.specs.declared.answer.PostFault.{PostFault}
use Rattle.sim_modules.specs.Acting.{Acting, answered, one_more}
use Rattle.actors.specs.Ends.{NoneEnded, IsRefused}
use Rattle.actors.specs.Modules.{ModuleDid, acted_posts, after_acts, fetched, told}
use Rattle.actors.specs.declared.end.ActorEnd.{ActorEnd}
use Rattle.actors.specs.declared.end.ActorEnd.TheVariants as end
use Rattle.actors.proofs.Posting.{posts-grow, NoneEnded-append, none-behind, none-behind-last, none-behind-as}

-- the commands so far were acted on, and no signal was answered Ended
pub record Acts (m m' : Acting) (posts posts' : List Post) : Type 0 where
  pub done : List (Command × Answer)
  pub grew : posts' ≡ posts ++ acted_posts m done
  pub none : NoneEnded (acted_posts m done)
  pub after : m' ≡ after_acts (length done) m

-- what one command adds
abbrev acted : Acting → Command → Answer → List Post
acted m c a = fetched m.number (answer.Command c) ∷ told (answered m c) a ∷ []

after-more : (n : ℕ) (m : Acting) → after_acts (suc n) m ≡ one_more (after_acts n m)
after-more zero m = refl
after-more (suc n) m = after-more n (one_more m)

number-stays : (n : ℕ) (m : Acting) → (after_acts n m).number ≡ m.number
number-stays zero m = refl
number-stays (suc n) m = number-stays n (one_more m)

acted-more : (m : Acting) (done : List (Command × Answer)) (c : Command) (a : Answer)
    → acted_posts m (done ++ (c, a) ∷ []) ≡ acted_posts m done ++ acted (after_acts (length done) m) c a
acted-more m [] c a = refl
acted-more m (x ∷ done) c a =
    ap (λ (posts : List Post). fetched m.number (answer.Command x.0) ∷ told (answered m x.0) x.1 ∷ posts) (acted-more (one_more m) done c a)

-- the length of a list with one more behind it
length-more : (done : List (Command × Answer)) (x : Command × Answer) → length (done ++ x ∷ []) ≡ suc (length done)
length-more [] x = refl
length-more (y ∷ done) x = ap suc (length-more done x)

pub acts-begin : (m : Acting) (posts : List Post) → Acts m m posts posts
acts-begin m posts = record { done = []; grew = sym (append-nil posts); none = tt; after = refl }

-- a fetch that was answered this command, and the signal by which the module answered it
posts-of : (m' : Acting) (n : ModuleId) (c : Command) (s : Signal) (b : Answer) (posts' between posts'' : List Post)
    → n ≡ m'.number → s ≡ answered m' c
    → between ≡ posts' ++ fetched n (answer.Command c) ∷ [] → posts'' ≡ between ++ told s b ∷ [] → posts'' ≡ posts' ++ acted m' c b
posts-of m' n c s b posts' between posts'' is_number is_signal fetch signal =
    posts-grow posts' between posts'' (fetched n (answer.Command c) ∷ []) (told s b ∷ []) fetch signal
    ∙ ap (λ (k : ModuleId). posts' ++ fetched k (answer.Command c) ∷ told s b ∷ []) is_number
    ∙ ap (λ (t : Signal). posts' ++ fetched m'.number (answer.Command c) ∷ told t b ∷ []) is_signal

-- its number, by that of the module as it began
number-is : (m m' : Acting) (posts posts' : List Post) (n : ModuleId) → Acts m m' posts posts' → n ≡ m.number → n ≡ m'.number
number-is m m' posts posts' n r is = is ∙ (sym (number-stays (length r.done) m) ∙ ap (λ (x : Acting). x.number) (sym r.after))

-- all posts with one command more
grew-more : (m m' : Acting) (n : ModuleId) (c : Command) (s : Signal) (b : Answer) (posts posts' between posts'' : List Post) (r : Acts m m' posts posts')
    → n ≡ m.number → s ≡ answered m' c
    → between ≡ posts' ++ fetched n (answer.Command c) ∷ [] → posts'' ≡ between ++ told s b ∷ []
    → posts'' ≡ posts ++ acted_posts m (r.done ++ (c, b) ∷ [])
grew-more m m' n c s b posts posts' between posts'' r is_number is_signal fetch signal =
    posts-grow posts posts' posts'' (acted_posts m r.done) (acted m' c b) r.grew
    (posts-of m' n c s b posts' between posts'' (number-is m m' posts posts' n r is_number) is_signal fetch signal)
    ∙ ap (λ (x : Acting). posts ++ (acted_posts m r.done ++ acted x c b)) r.after
    ∙ ap (λ (new : List Post). posts ++ new) (sym (acted-more m r.done c b))

after-one : (m m' m'' : Acting) (done : List (Command × Answer)) (x : Command × Answer) → m' ≡ after_acts (length done) m → m'' ≡ one_more m' → m'' ≡ after_acts (length (done ++ x ∷ [])) m
after-one m m' m'' done x before act =
    act ∙ ap one_more before ∙ sym (after-more (length done) m) ∙ ap (λ (n : ℕ). after_acts n m) (sym (length-more done x))

pub acts-go : (m m' m'' : Acting) (n : ModuleId) (c : Command) (s : Signal) (posts posts' between posts'' : List Post)
    → Acts m m' posts posts' → n ≡ m.number → s ≡ answered m' c → m'' ≡ one_more m'
    → between ≡ posts' ++ fetched n (answer.Command c) ∷ [] → posts'' ≡ between ++ told s answer.Done ∷ [] → Acts m m'' posts posts''
acts-go m m' m'' n c s posts posts' between posts'' r is_number is_signal act fetch signal = record {
  done = r.done ++ (c, answer.Done) ∷ [];
  grew = grew-more m m' n c s answer.Done posts posts' between posts'' r is_number is_signal fetch signal;
  none = subst NoneEnded (sym (acted-more m r.done c answer.Done))
      (NoneEnded-append (acted_posts m r.done) (acted (after_acts (length r.done) m) c answer.Done) r.none
      ((λ (is : answer.Command c ≡ answer.Ended). cc), ((λ (is : answer.Done ≡ answer.Ended). cc), tt)));
  after = after-one m m' m'' r.done (c, answer.Done) r.after act;
}

pub acts-stay : (m m' m'' : Acting) (posts posts' posts'' : List Post) → Acts m m' posts posts' → m'' ≡ m' → posts'' ≡ posts' → Acts m m'' posts posts''
acts-stay m m' m'' posts posts' posts'' r module_same same =
    record { done = r.done; grew = same ∙ r.grew; none = r.none; after = module_same ∙ r.after }

-- what a fetch recorded that was answered this
pub fetch-recorded : (r : Result Answer PostFault) (a b : Answer) (n : ModuleId) (posts posts' : List Post)
    → r ≡ Ok a → a ≡ b → IfOk r (λ x. posts' ≡ posts ++ fetched n x ∷ []) → posts' ≡ posts ++ fetched n b ∷ []
fetch-recorded r a b n posts posts' is same recorded =
    let first : posts' ≡ posts ++ fetched n a ∷ [] = subst (λ (q : Result Answer PostFault). IfOk q (λ x. posts' ≡ posts ++ fetched n x ∷ [])) is recorded in
    subst (λ (x : Answer). posts' ≡ posts ++ fetched n x ∷ []) same first

-- the posts of one command more, with the last of them by itself
acted-last : (m : Acting) (done : List (Command × Answer)) (c : Command) (a : Answer)
    → acted_posts m (done ++ (c, a) ∷ [])
    ≡ (acted_posts m done ++ fetched (after_acts (length done) m).number (answer.Command c) ∷ []) ++ told (answered (after_acts (length done) m) c) a ∷ []
acted-last m done c a =
    let x = after_acts (length done) m in
    acted-more m done c a ∙ sym (append_assoc (acted_posts m done) (fetched x.number (answer.Command c) ∷ []) (told (answered x c) a ∷ []))

-- the signal was answered Ended
pub module-quits : (m m' m'' : Acting) (n : ModuleId) (c : Command) (s : Signal) (posts posts' between posts'' : List Post)
    → Acts m m' posts posts' → n ≡ m.number → s ≡ answered m' c → m'' ≡ one_more m'
    → between ≡ posts' ++ fetched n (answer.Command c) ∷ [] → posts'' ≡ between ++ told s answer.Ended ∷ [] → ModuleDid m m'' posts posts'' end.Quit
module-quits m m' m'' n c s posts posts' between posts'' r is_number is_signal act fetch signal =
    let x : Acting = after_acts (length r.done) m in
    let done : List (Command × Answer) = r.done ++ (c, answer.Ended) ∷ [] in
    let before : List Post = acted_posts m r.done ++ fetched x.number (answer.Command c) ∷ [] in
    let last : Post = told (answered x c) answer.Ended in
    let split : acted_posts m done ≡ before ++ last ∷ [] = acted-last m r.done c answer.Ended in
    let none : NoneEnded before =
    NoneEnded-append (acted_posts m r.done) (fetched x.number (answer.Command c) ∷ []) r.none ((λ (is : answer.Command c ≡ answer.Ended). cc), tt) in
    record {
      done = done;
      last = [];
      grew = grew-more m m' n c s answer.Ended posts posts' between posts'' r is_number is_signal fetch signal
          ∙ sym (append-nil (posts ++ acted_posts m done));
      no_more = none-behind-as (before ++ last ∷ []) (acted_posts m done ++ []) (append-nil (acted_posts m done) ∙ split) (none-behind-last before last none);
      ends = inl (refl, after-one m m' m'' r.done (c, answer.Ended) r.after act, inl (refl, (before, last, split, refl)));
    }

-- posts so far, and one that fetched
fetched-more : (m m' : Acting) (n : ModuleId) (a : Answer) (posts posts' posts'' : List Post) (r : Acts m m' posts posts')
    → n ≡ m.number → posts'' ≡ posts' ++ fetched n a ∷ [] → posts'' ≡ (posts ++ acted_posts m r.done) ++ fetched m.number a ∷ []
fetched-more m m' n a posts posts' posts'' r is_number fetch =
    fetch ∙ (ap (λ (before : List Post). before ++ fetched n a ∷ []) r.grew
    ∙ ap (λ (k : ModuleId). (posts ++ acted_posts m r.done) ++ fetched k a ∷ []) is_number)

-- the fetch was answered Ended
pub module-ends : (m m' : Acting) (n : ModuleId) (posts posts' posts'' : List Post)
    → Acts m m' posts posts' → n ≡ m.number → posts'' ≡ posts' ++ fetched n answer.Ended ∷ [] → ModuleDid m m' posts posts'' end.Quit
module-ends m m' n posts posts' posts'' r is_number fetch = record {
  done = r.done;
  last = fetched m.number answer.Ended ∷ [];
  grew = fetched-more m m' n answer.Ended posts posts' posts'' r is_number fetch;
  no_more = none-behind-last (acted_posts m r.done) (fetched m.number answer.Ended) r.none;
  ends = inr (inl (refl, r.after, refl));
}

-- a fetch was refused
pub fetch-refused : (m m' : Acting) (posts posts' posts'' : List Post) (e : ActorEnd) → Acts m m' posts posts' → posts'' ≡ posts' → IsRefused e → ModuleDid m m' posts posts'' e
fetch-refused m m' posts posts' posts'' e r same refused = record {
  done = r.done;
  last = [];
  grew = same ∙ (r.grew ∙ sym (append-nil (posts ++ acted_posts m r.done)));
  no_more = none-behind-as (acted_posts m r.done) (acted_posts m r.done ++ []) (append-nil (acted_posts m r.done)) (none-behind (acted_posts m r.done) r.none);
  ends = inl (refl, r.after, inr refused);
}

-- a signal was refused
pub signal-refused : (m m' m'' : Acting) (n : ModuleId) (c : Command) (posts posts' between posts'' : List Post) (e : ActorEnd)
    → Acts m m' posts posts' → n ≡ m.number → m'' ≡ one_more m'
    → between ≡ posts' ++ fetched n (answer.Command c) ∷ [] → posts'' ≡ between → IsRefused e → ModuleDid m m'' posts posts'' e
signal-refused m m' m'' n c posts posts' between posts'' e r is_number act fetch same refused = record {
  done = r.done;
  last = fetched m.number (answer.Command c) ∷ [];
  grew = same ∙ fetched-more m m' n (answer.Command c) posts posts' between r is_number fetch;
  no_more = none-behind-last (acted_posts m r.done) (fetched m.number (answer.Command c)) r.none;
  ends = inr (inr (c, refl, act ∙ ap one_more r.after ∙ sym (after-more (length r.done) m) ∙ ap (λ (k : ℕ). after_acts k m) (sym (add-one (length r.done))), refused));
}
