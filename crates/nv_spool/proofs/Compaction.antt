-- What a crash leaves while the other half is written, and while the selector is.
use Rattle.std.proofs.Common.{◌≡◌, inl, inr, ⊎_elim, ℕ, ◌+◌, ◌<◌, ◌≤◌, ◌⊎◌, false, List, [], ◌∷◌, ◌++◌, length, get_or, refl, sym, ◌∙◌, ap, subst, arith, length-append, append_assoc}
use Rattle.std.specs.List.{All}
use Rattle.std.proofs.lemmas.Bool.Decides.{nat_tests}
use Rattle.std.proofs.lemmas.List.{append-nil, length_push}
use Rattle.std.proofs.lemmas.List.Elements.{All-head, All-tail}
use Rattle.spool.specs.declared.note.Note.{Note}
use Rattle.spool.specs.Full.{fitted}
use Rattle.nv_spool.specs.Writing.{next, pushes}
use Rattle.outside.specs.Disk.{HasAt, Torn, TornSince, WrittenAt, Elapses, Follows, Only, Each}
use Rattle.spool_format.specs.Runs.{WritesOnly}
use Rattle.spool_format.proofs.Moments.{weaker}
use Rattle.nv_spool.proofs.Holding.{Holds, then_call}
use Rattle.nv_spool.proofs.Pushes.{pushes_size}
use Rattle.spool_format.proofs.Pieces.{stays, joined, right_part, one_byte}
use Rattle.spool_format.specs.Format.{Sizes, IsSize, Record, Fits, Stand, replayed, Shows, StandsFor, Settled, half_start, head_bytes, spelled}

-- ---- pushes give back the notes

kept_all : (capacity : ℕ) (notes : List Note) → length notes ≤ capacity → fitted false capacity notes ≡ notes
kept_all capacity notes few = grind (arith, nat_tests)

pub replayed_pushes : (capacity : ℕ) (front notes : List Note) → length front + length notes ≤ capacity → replayed capacity front (pushes notes) ≡ front ++ notes
replayed_pushes capacity front [] few = sym (append-nil front)
replayed_pushes capacity front (note ∷ notes) few =
    let more = length_push front note in
    ap (λ (ns : List Note). replayed capacity ns (pushes notes)) (kept_all capacity (front ++ note ∷ []) (omega arith))
    ∙ replayed_pushes capacity (front ++ note ∷ []) notes (omega arith) ∙ append_assoc front (note ∷ []) notes

pub stand_pushes : (capacity : ℕ) (front notes : List Note) → All Fits notes → Stand capacity front (pushes notes)
stand_pushes capacity front [] fits = tt
stand_pushes capacity front (note ∷ notes) fits =
    (omega arith, All-head Fits note notes fits, refl, stand_pushes capacity (fitted false capacity (front ++ note ∷ [])) notes (All-tail Fits note notes fits))

-- ---- the two halves

-- a selector names one half or the other
pub one_or_other : (s : Sizes) (selector x : ℕ) → (half_start s x ≡ half_start s selector) ⊎ (half_start s x ≡ half_start s (next selector))
one_or_other s selector x = grind (arith, nat_tests)

-- the other half lies apart
pub apart : (s : Sizes) (selector size n : ℕ) → size ≤ s.half → n ≤ s.half → (half_start s selector + size ≤ half_start s (next selector)) ⊎ (half_start s (next selector) + n ≤ half_start s selector)
apart s selector size n small small' = grind (arith, nat_tests)

pub behind_head : (s : Sizes) (selector : ℕ) → 13 ≤ half_start s selector
behind_head s selector = grind (arith, nat_tests)

module _ (s : Sizes) (selector : ℕ) (rs : List Record) where
  -- writing in the other half leaves this one
  pub other_torn : (n : ℕ) (old new : List ℕ) → n ≤ s.half → Torn (half_start s (next selector)) n old new → Shows s selector rs old → Shows s selector rs new
  other_torn n old new small torn shows =
      let at = half_start s (next selector) in
      let front = behind_head s (next selector) in
      let size = length-append (spelled rs) (0 ∷ []) in
      record {
        head = stays at n old new 0 (head_bytes s selector) torn shows.head (inl (omega arith));
        text = stays at n old new (half_start s selector) (spelled rs ++ 0 ∷ []) torn shows.text (apart s selector (length (spelled rs ++ 0 ∷ [])) n (omega (arith, shows.within)) small);
        within = shows.within;
      }

  module _ (qs : List Record) where
    -- both halves are whole
    pub record Both (bytes : List ℕ) : Type 0 where
      pub shows : Shows s selector rs bytes
      pub other : HasAt bytes (half_start s (next selector)) (spelled qs ++ 0 ∷ [])
      pub within : length (spelled qs) < s.half

    -- whatever the selector is then, one of them is read
    pub selected : (x : ℕ) (bytes : List ℕ) → HasAt bytes 0 (head_bytes s x) → HasAt bytes (half_start s selector) (spelled rs ++ 0 ∷ []) → HasAt bytes (half_start s (next selector)) (spelled qs ++ 0 ∷ [])
        → length (spelled rs) < s.half → length (spelled qs) < s.half → Shows s x rs bytes ⊎ Shows s x qs bytes
    selected x bytes head this other within within' = ⊎_elim
        (λ same. inl (record { head = head; text = subst (λ (at : ℕ). HasAt bytes at (spelled rs ++ 0 ∷ [])) (sym same) this; within = within }))
        (λ same. inr (record { head = head; text = subst (λ (at : ℕ). HasAt bytes at (spelled qs ++ 0 ∷ [])) (sym same) other; within = within' }))
        (one_or_other s selector x)

    module _ (old new : List ℕ) (torn : Torn 0 1 old new) (both : Both old) where
      this_stays : HasAt new (half_start s selector) (spelled rs ++ 0 ∷ [])
      this_stays = stays 0 1 old new (half_start s selector) (spelled rs ++ 0 ∷ []) torn both.shows.text (inr (omega (arith, behind_head s selector)))

      other_stays : HasAt new (half_start s (next selector)) (spelled qs ++ 0 ∷ [])
      other_stays = stays 0 1 old new (half_start s (next selector)) (spelled qs ++ 0 ∷ []) torn both.other (inr (omega (arith, behind_head s (next selector))))

      sizes_stay : (x : ℕ) → HasAt new 0 (x ∷ []) → HasAt new 0 (head_bytes s x)
      sizes_stay x here =
          let behind = stays 0 1 old new 1 _ torn (right_part old 0 1 (selector ∷ []) _ refl both.shows.head) (inr (omega arith)) in
          joined new 0 1 (x ∷ []) _ refl here behind

      pub selector_torn : (x : ℕ) × (Shows s x rs new ⊎ Shows s x qs new)
      selector_torn =
          let x = get_or new 0 0 in
          let some : 0 < length new = omega (arith, torn.no_shorter, both.shows.head.within 0 (omega arith)) in
          (x, selected x new (sizes_stay x (one_byte new 0 some)) this_stays other_stays both.shows.within both.within)

      pub selector_written : HasAt new 0 (next selector ∷ []) → Shows s (next selector) qs new
      selector_written there = record { head = sizes_stay (next selector) there; text = other_stays; within = both.within }

-- ---- what a crash leaves

-- between two calls each image stands for the notes
pub stands_now : (s : Sizes) (selector end : ℕ) (notes : List Note) (images : List ℕ → Type 0) → IsSize s → Settled s selector end notes images → Each images (StandsFor s notes)
stands_now s selector end notes images size settled c left = record {
  size = size;
  selector = selector;
  records = settled.records;
  shows = settled.shows c left;
  stand = settled.stand;
  notes_are = settled.notes_are;
}

module _ (s : Sizes) (selector end : ℕ) (notes : List Note) (size : IsSize s) (fits : All Fits notes) (few : length notes ≤ s.capacity) where
  pushed_stand : (x : ℕ) (bytes : List ℕ) → Shows s x (pushes notes) bytes → StandsFor s notes bytes
  pushed_stand x bytes shows = record {
    size = size;
    selector = x;
    records = pushes notes;
    shows = shows;
    stand = stand_pushes s.capacity [] notes fits;
    notes_are = sym (replayed_pushes s.capacity [] notes (omega arith));
  }

  module _ (old : List ℕ → Type 0) (settled : Settled s selector end notes old) where
    -- an image from before that is torn in the other half
    pub torn_since : (n : ℕ) → n ≤ s.half → (c : List ℕ) → TornSince (half_start s (next selector)) n old c → Shows s selector settled.records c
    torn_since n small c torn = other_torn s selector settled.records n torn.0 c small torn.2 (settled.shows torn.0 torn.1)

    pub torn_stands : (n : ℕ) → n ≤ s.half → (c : List ℕ) → TornSince (half_start s (next selector)) n old c → StandsFor s notes c
    torn_stands n small c torn = record {
      size = size;
      selector = selector;
      records = settled.records;
      shows = torn_since n small c torn;
      stand = settled.stand;
      notes_are = settled.notes_are;
    }

    pub both_there : (read synced : List ℕ) (images : List ℕ → Type 0) → length (spelled (pushes notes)) < s.half → old read → WrittenAt (half_start s (next selector)) (spelled (pushes notes) ++ 0 ∷ []) read synced → Only synced images
        → Each images (Both s selector settled.records (pushes notes))
    both_there read synced images small now written only c left =
        let both : Both s selector settled.records (pushes notes) synced = record {
          shows = other_torn s selector settled.records (length (spelled (pushes notes) ++ 0 ∷ [])) read synced (omega (arith, length-append (spelled (pushes notes)) (0 ∷ []))) written.torn (settled.shows read now);
          other = written.there;
          within = small;
        } in
        subst (Both s selector settled.records (pushes notes)) (sym (only c left)) both

    pub after_selector : (staged new : List ℕ → Type 0) → Each staged (Both s selector settled.records (pushes notes)) → Follows (Torn 0 1) staged new → Each new (StandsFor s notes)
    after_selector staged new each follows c left =
        let from = follows c left in
        let now = selector_torn s selector settled.records (pushes notes) from.0 c from.2 (each from.0 from.1) in
        ⊎_elim
        (λ shows. record { size = size; selector = now.0; records = settled.records; shows = shows; stand = settled.stand; notes_are = settled.notes_are })
        (λ shows. pushed_stand now.0 c shows)
        now.1

    pub done : (read synced : List ℕ) (images : List ℕ → Type 0) → Both s selector settled.records (pushes notes) read → WrittenAt 0 (next selector ∷ []) read synced → Only synced images → Settled s (next selector) (length (spelled (pushes notes))) notes images
    done read synced images both written only = record {
      records = pushes notes;
      stand = stand_pushes s.capacity [] notes fits;
      notes_are = sym (replayed_pushes s.capacity [] notes (omega arith));
      end_is = refl;
      shows = λ c left. subst (Shows s (next selector) (pushes notes)) (sym (only c left)) (selector_written s selector settled.records (pushes notes) read synced written.torn both written.there);
    }

-- ---- a compaction, call by call

-- the other half has room
pub room : (s : Sizes) (notes : List Note) → IsSize s → All Fits notes → length notes ≤ s.capacity → length (spelled (pushes notes)) < s.half
room s notes size fits few = omega (arith, pushes_size notes fits, size.enough, few)

module _ {D : Type 0} (leaves : D → List ℕ → Type 0) (moment : D → ℕ) (left_since : D → ℕ → List ℕ → Type 0) (s : Sizes) (selector end : ℕ) (notes : List Note) (size : IsSize s) (fits : All Fits notes) (few : length notes ≤ s.capacity) (old : D) (settled : Settled s selector end notes (leaves old)) where
  -- its pushes are written
  pub half_written : (at : ℕ) (new : D) → at ≡ half_start s (next selector) → WritesOnly leaves moment left_since at (length (spelled (pushes notes) ++ 0 ∷ [])) old new → Holds leaves moment left_since (StandsFor s notes) old new
  half_written at new start writes =
      let n = length (spelled (pushes notes) ++ 0 ∷ []) in
      let only = subst (λ (k : ℕ). WritesOnly leaves moment left_since k n old new) start writes in
      let torn = torn_stands s selector end notes size fits few (leaves old) settled n (omega (arith, length-append (spelled (pushes notes)) (0 ∷ []), room s notes size fits few)) in
      record {
        run = weaker moment left_since old new (TornSince (half_start s (next selector)) n (leaves old)) (StandsFor s notes) only.any_moment torn;
        now = λ f left. torn f (only.follows f left);
      }

  -- they are on the disk
  pub both_halves : (at : ℕ) (read synced : List ℕ) (images : List ℕ → Type 0) → at ≡ half_start s (next selector) → leaves old read → WrittenAt at (spelled (pushes notes) ++ 0 ∷ []) read synced → Only synced images → Each images (Both s selector settled.records (pushes notes))
  both_halves at read synced images start now written only =
      both_there s selector end notes size fits few (leaves old) settled read synced images (room s notes size fits few) now (subst (λ (k : ℕ). WrittenAt k (spelled (pushes notes) ++ 0 ∷ []) read synced) start written) only

  -- the selector is written
  pub selector_named : (mid new : D) → Holds leaves moment left_since (StandsFor s notes) old mid → Each (leaves mid) (Both s selector settled.records (pushes notes)) → Elapses (moment mid) (moment new) (left_since mid) (left_since new) (leaves new) → Follows (Torn 0 1) (leaves mid) (leaves new) → Holds leaves moment left_since (StandsFor s notes) old new
  selector_named mid new so_far both time follows =
      then_call leaves moment left_since (StandsFor s notes) old mid new so_far time (after_selector s selector end notes size fits few (leaves old) settled (leaves mid) (leaves new) both follows)
