-- Laws of transactions that are kept under keys.
use Rattle.std.proofs.Common.{◌≡◌, ◌≢◌, ℕ, zero, suc, ◌<◌, ◌==◌, true, false, List, [], ◌∷◌, ◌++◌, length, Option, Some, None, slice_get, get_or, refl, sym, ◌∙◌, ap, subst, arith, IsSome, remove}
use Rattle.std.specs.List.{cons_option}
use Rattle.std.proofs.lemmas.Bool.Decides.{nat_tests}
use Rattle.slab.specs.Slab.{Slab, get, Updates}
use Rattle.transactions.specs.declared.transaction.Open.{Open}
use Rattle.transactions.specs.Table.{has_system, AreDifferent}
use Rattle.transactions.specs.Kept.{Holds, under}
use Rattle.transactions.proofs.Finding.{some-at}
use Rattle.transactions.proofs.Systems.{has-at, different-remove, different-push}

-- as many keys as transactions
pub holds-length : (slab : Slab Open) (keys : List ℕ) (opened : List Open) → Holds slab keys opened → length keys ≡ length opened
holds-length slab [] [] h = refl
holds-length slab [] (one ∷ others) h = absurd h
holds-length slab (key ∷ keys) [] h = absurd h
holds-length slab (key ∷ keys) (one ∷ others) h = ap suc (holds-length slab keys others h.1)

-- the key at a place has the transaction at that place
pub holds-at : (slab : Slab Open) (keys : List ℕ) (opened : List Open) (i d : ℕ) → Holds slab keys opened → i < length opened → get slab (get_or keys i d) ≡ slice_get opened i
holds-at slab [] [] i d h l = absurd (omega arith)
holds-at slab [] (one ∷ others) i d h l = absurd h
holds-at slab (key ∷ keys) [] i d h l = absurd h
holds-at slab (key ∷ keys) (one ∷ others) zero d h l = h.0
holds-at slab (key ∷ keys) (one ∷ others) (suc i) d h l = holds-at slab keys others i d h.1 (omega arith)

-- what keys have is all that they have
pub holds-under : (slab : Slab Open) (keys : List ℕ) (opened : List Open) → Holds slab keys opened → under slab keys ≡ opened
holds-under slab [] [] h = refl
holds-under slab [] (one ∷ others) h = absurd h
holds-under slab (key ∷ keys) [] h = absurd h
holds-under slab (key ∷ keys) (one ∷ others) h =
    ap (λ (r : Option Open). cons_option r (under slab keys)) h.0 ∙ ap (λ (r : List Open). one ∷ r) (holds-under slab keys others h.1)

-- a transaction that is added under a key that had none
pub holds-push : (slab later : Slab Open) (keys : List ℕ) (opened : List Open) (key : ℕ) (one : Open) → Holds slab keys opened → get slab key ≡ None → Updates slab later key (Some one) → Holds later (keys ++ key ∷ []) (opened ++ one ∷ [])
holds-push slab later [] [] key one h none u = (u.changed, tt)
holds-push slab later [] (o ∷ os) key one h none u = absurd h
holds-push slab later (k ∷ ks) [] key one h none u = absurd h
holds-push slab later (k ∷ ks) (o ∷ os) key one h none u =
    let there : get slab k ≡ Some o = h.0 in
    let ne : k ≢ key = λ (e : k ≡ key). let same : get slab k ≡ get slab key = ap (get slab) e in cc in
    (u.others k ne ∙ there, holds-push slab later ks os key one h.1 none u)

-- keys keep what they have where another's transaction is taken out
holds-keep : (slab later : Slab Open) (keys : List ℕ) (opened : List Open) (key : ℕ) (one : Open) → Holds slab keys opened → get slab key ≡ Some one → has_system opened one.system ≡ false → Updates slab later key None → Holds later keys opened
holds-keep slab later [] [] key one h there absent u = tt
holds-keep slab later [] (o ∷ os) key one h there absent u = absurd h
holds-keep slab later (k ∷ ks) [] key one h there absent u = absurd h
holds-keep slab later (k ∷ ks) (o ∷ os) key one h there absent u =
    let here : get slab k ≡ Some o = h.0 in
    let rest : has_system os one.system ≡ false = grind (arith, nat_tests) in
    let other : (o.system == one.system) ≡ false = grind (arith, nat_tests) in
    let ne : k ≢ key = λ (e : k ≡ key).
    let same : get slab k ≡ get slab key = ap (get slab) e in
    let equal : o ≡ one = cc in
    let systems : o.system ≡ one.system = ap (λ (x : Open). x.system) equal in
    grind (arith, nat_tests) in
    (u.others k ne ∙ here, holds-keep slab later ks os key one h.1 there rest u)

-- a transaction that is taken out at its place
pub holds-remove : (slab later : Slab Open) (keys : List ℕ) (opened : List Open) (i d : ℕ) (one : Open) → Holds slab keys opened → AreDifferent opened → slice_get opened i ≡ Some one → get slab (get_or keys i d) ≡ Some one → Updates slab later (get_or keys i d) None → Holds later (remove keys i) (remove opened i)
holds-remove slab later [] [] zero d one h a e f u = tt
holds-remove slab later [] [] (suc i) d one h a e f u = tt
holds-remove slab later [] (o ∷ os) i d one h a e f u = absurd h
holds-remove slab later (k ∷ ks) [] i d one h a e f u = absurd h
holds-remove slab later (k ∷ ks) (o ∷ os) zero d one h a e f u =
    let same : o ≡ one = cc in
    let absent : has_system os one.system ≡ false = rw (← same) a.0 in
    holds-keep slab later ks os k one h.1 f absent u
holds-remove slab later (k ∷ ks) (o ∷ os) (suc i) d one h a e f u =
    let here : get slab k ≡ Some o = h.0 in
    let there : has_system os one.system ≡ true = has-at os i one e in
    let absent : has_system os o.system ≡ false = a.0 in
    let ne : k ≢ get_or ks i d = λ (q : k ≡ get_or ks i d).
    let same : get slab k ≡ get slab (get_or ks i d) = ap (get slab) q in
    let equal : o ≡ one = cc in
    let systems : has_system os o.system ≡ has_system os one.system = ap (λ (x : Open). has_system os x.system) equal in
    cc in
    (u.others k ne ∙ here, holds-remove slab later ks os i d one h.1 a.1 e f u)

-- a key that was read at a place has the transaction at that place
pub read-at : (slab : Slab Open) (keys : List ℕ) (i key : ℕ) → Holds slab keys (under slab keys) → i < length (under slab keys) → key ≡ get_or keys i key → get slab key ≡ slice_get (under slab keys) i
read-at slab keys i key h l e = ap (get slab) e ∙ holds-at slab keys (under slab keys) i key h l

-- a key that was read has a transaction
pub has-key : (slab : Slab Open) (keys : List ℕ) (i key : ℕ) → Holds slab keys (under slab keys) → i < length (under slab keys) → key ≡ get_or keys i key → IsSome (get slab key)
has-key slab keys i key h l e = subst (λ (o : Option Open). IsSome o) (sym (read-at slab keys i key h l e)) (some-at (under slab keys) i l)

-- what is kept after a transaction was taken out at its place
pub record AfterRemove (slab later : Slab Open) (keys : List ℕ) (i : ℕ) : Type 0 where
  pub opened : under later (remove keys i) ≡ remove (under slab keys) i
  pub holds : Holds later (remove keys i) (under later (remove keys i))
  pub different : AreDifferent (under later (remove keys i))

pub after-remove : (slab later : Slab Open) (keys : List ℕ) (i key : ℕ) → Holds slab keys (under slab keys) → AreDifferent (under slab keys) → i < length (under slab keys) → key ≡ get_or keys i key → Updates slab later key None → AfterRemove slab later keys i
after-remove slab later keys i key h a l e u =
    let one = read-at slab keys i key h l e in
    by_one (get slab key) refl (has-key slab keys i key h l e) where
      by_one : (o : Option Open) → get slab key ≡ o → IsSome o → AfterRemove slab later keys i
      by_one None q s = absurd (cc)
      by_one (Some one) q s =
          let at_place : slice_get (under slab keys) i ≡ Some one = sym (read-at slab keys i key h l e) ∙ q in
          let there : get slab (get_or keys i key) ≡ Some one = ap (get slab) (sym e) ∙ q in
          let updates : Updates slab later (get_or keys i key) None = subst (λ (k : ℕ). Updates slab later k None) e u in
          let holds = holds-remove slab later keys (under slab keys) i key one h a at_place there updates in
          let same : under later (remove keys i) ≡ remove (under slab keys) i = holds-under later (remove keys i) (remove (under slab keys) i) holds in
          record {
            opened = same;
            holds = subst (λ (os : List Open). Holds later (remove keys i) os) (sym same) holds;
            different = subst (λ (os : List Open). AreDifferent os) (sym same) (different-remove (under slab keys) i a);
          }

-- what is kept after a transaction was added
pub record AfterPush (slab later : Slab Open) (keys : List ℕ) (key : ℕ) (one : Open) : Type 0 where
  pub opened : under later (keys ++ key ∷ []) ≡ under slab keys ++ one ∷ []
  pub holds : Holds later (keys ++ key ∷ []) (under later (keys ++ key ∷ []))
  pub different : AreDifferent (under later (keys ++ key ∷ []))

pub after-push : (slab later : Slab Open) (keys : List ℕ) (key : ℕ) (one : Open) → Holds slab keys (under slab keys) → AreDifferent (under slab keys) → has_system (under slab keys) one.system ≡ false → get slab key ≡ None → Updates slab later key (Some one) → AfterPush slab later keys key one
after-push slab later keys key one h a free none u =
    let holds = holds-push slab later keys (under slab keys) key one h none u in
    let same : under later (keys ++ key ∷ []) ≡ under slab keys ++ one ∷ [] = holds-under later (keys ++ key ∷ []) (under slab keys ++ one ∷ []) holds in
    record {
      opened = same;
      holds = subst (λ (os : List Open). Holds later (keys ++ key ∷ []) os) (sym same) holds;
      different = subst (λ (os : List Open). AreDifferent os) (sym same) (different-push (under slab keys) one a free);
    }
