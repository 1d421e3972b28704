-- The carriers with the room for them, after a change.
use Rattle.std.proofs.Common.{◌≡◌, ℕ, ◌<◌, Bool, false, List, [], ◌∷◌, ◌++◌, length, filter}
use Rattle.records.specs.Stock.{Stock}
use Rattle.carrier.specs.Carriers.{is_known, change_numbered, change_named, most_carriers}
use Rattle.carrier.specs.Changes.{changed_by}
use Rattle.carrier.specs.Kept.{AreKept}
use Rattle.carrier.specs.declared.carrier.Carrier.{Carrier}
use Rattle.carrier.specs.declared.change.CarrierChange.{CarrierChange}
use Rattle.carrier.proofs.Apart.{carriers_more, carriers_numbered, carriers_named, carriers_fewer}

pub kept_more : (carrier : Carrier) (book : Stock Carrier) → AreKept book → is_known carrier.name book.kept ≡ false → length book.kept < most_carriers → AreKept (record book { kept = book.kept ++ carrier ∷ [] })
kept_more carrier book h e l = record { carriers = carriers_more carrier book.kept h.carriers e l; room = h.room }

pub kept_numbered : (n : ℕ) (d : CarrierChange) (book : Stock Carrier) → AreKept book → AreKept (record book { kept = change_numbered n (changed_by d) book.kept })
kept_numbered n d book h = record { carriers = carriers_numbered n d book.kept h.carriers; room = h.room }

pub kept_named : (name : List ℕ) (d : CarrierChange) (book : Stock Carrier) → AreKept book → AreKept (record book { kept = change_named name (changed_by d) book.kept })
kept_named name d book h = record { carriers = carriers_named name d book.kept h.carriers; room = h.room }

pub kept_fewer : (test : Carrier → Bool) (book : Stock Carrier) → AreKept book → AreKept (record book { kept = filter test book.kept })
kept_fewer test book h = record { carriers = carriers_fewer test book.kept h.carriers; room = h.room }
