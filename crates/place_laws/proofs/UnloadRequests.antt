-- The carrier at a port that is READY TO UNLOAD goes on to have finished behind what an action of the host writes.
use Rattle.std.proofs.Common.{◌≡◌, ℕ, Bool, true, not, List, map, Option, Some, None, refl, sym}
use Rattle.std.proofs.lemmas.Bool.{true≢false, both_ways}
use Rattle.load_port.specs.declared.caack.Caack.TheVariants as caack
use Rattle.load_port.specs.Caack.{is_done_code}
use Rattle.load_port.specs.Ports.{view_of}
use Rattle.carrier.specs.declared.action.CarrierAction.{CarrierAction}
use Rattle.carrier.specs.declared.action.CarrierWord.{CarrierWord}
use Rattle.carrier.specs.declared.action.CarrierWord.TheVariants as word
use Rattle.carrier.specs.Carriers.{has_name, carrier_named, without, created, found_or_created, directed_to, told_map}
use Rattle.carrier.specs.Verdict.{view_numbered, bind_carrier_code}
use Rattle.shop_floor.specs.Floor.{Floor, floor_of}
use Rattle.shop_floor.specs.Requests.{carrier_code, carrier_written, created as made, directed, maps_told}
use Rattle.shop_floor.specs.Valid.{IsFloor}
use Rattle.shop_floor.proofs.Apart.{all_both, all_pushed, all_changed, all_filtered, all_found}
use Rattle.place_laws.specs.Ports.{IsFinishedThere, IsReadById, Unloading}
use Rattle.place_laws.proofs.PortRequests.{answer_of, bind_of, IsLoose, loose, action}
use Rattle.place_laws.proofs.UnloadRows.{finished_named, by_id_named, finished_found, by_id_found}

-- a Bind directs a carrier that isn't present
bound-unloading : (name : List ℕ) (port : ℕ) (f : Floor) → is_done_code (bind_carrier_code (carrier_named name f.carriers) f.carriers) ≡ true → IsFloor f → Unloading f → Unloading (directed name port f)
bound-unloading name port f code valid u = record {
  finished = all_changed (λ c. IsFinishedThere f.ports c × IsLoose name c) (IsFinishedThere f.ports) name (directed_to port) (found_or_created f.next_carrier name f.carriers)
      (λ c is b present. absurd (both_ways _ (b.1 is) present)) (λ c other b. b.0)
      (all_both (IsFinishedThere f.ports) (IsLoose name) (found_or_created f.next_carrier name f.carriers) (finished_found name f u)
      (all_found (IsLoose name) f.next_carrier name f.carriers (λ new is. refl) (loose name f.carriers (carrier_named name f.carriers) valid.apart refl code)));
  by_id = by_id_named name (directed_to port) (found_or_created f.next_carrier name f.carriers) (λ c. refl) (by_id_found name f u);
}

-- a carrier becomes known, which isn't present
made-unloading : (name : List ℕ) (f : Floor) → Unloading f → Unloading (made name f)
made-unloading name f u = record {
  finished = all_pushed (IsFinishedThere f.ports) f.carriers (created f.next_carrier name) u.finished (λ present. absurd (true≢false (sym present)));
  by_id = all_pushed IsReadById f.carriers (created f.next_carrier name) u.by_id (λ read. absurd (true≢false read));
}

-- one is forgotten
unknown-unloading : (name : List ℕ) (f : Floor) → Unloading f → Unloading (floor_of f.ports (without name f.carriers) f.next_carrier)
unknown-unloading name f u = record {
  finished = all_filtered (IsFinishedThere f.ports) (IsFinishedThere f.ports) (λ c. not (has_name name c)) f.carriers (λ c t was. was) u.finished;
  by_id = all_filtered IsReadById IsReadById (λ c. not (has_name name c)) f.carriers (λ c t was. was) u.by_id;
}

-- a map is told
maps-unloading : (o : Option (List ℕ)) (name : List ℕ) (f : Floor) → Unloading f → Unloading (floor_of f.ports (maps_told o name f.carriers) f.next_carrier)
maps-unloading None name f u = record { finished = u.finished; by_id = u.by_id }
maps-unloading (Some slots) name f u = record {
  finished = finished_named name (told_map slots) f (record { states = λ c. refl; present = λ c. refl; port = λ c. refl }) u;
  by_id = by_id_named name (told_map slots) f.carriers (λ c. refl) u.by_id;
}

written-so : (w : CarrierWord) (id : List ℕ) (port : ℕ) (slots : Option (List ℕ)) (bad : Bool) (f : Floor) → is_done_code (carrier_code f (action w id port slots bad)) ≡ true → IsFloor f → Unloading f → Unloading (carrier_written (action w id port slots bad) f)
written-so word.Bind id port slots bad f code valid u = bound-unloading id port f (bind_of (carrier_named id f.carriers) f.carriers (view_numbered port (map view_of f.ports)) (answer_of _ caack.Faulty _ code refl)) valid u
written-so word.CancelBind id port slots bad f code valid u = u
written-so word.Proceed id port slots bad f code valid u = maps-unloading slots id f u
written-so word.Cancel id port slots bad f code valid u = u
written-so word.Notify id port slots bad f code valid u = made-unloading id f u
written-so word.CancelNotify id port slots bad f code valid u = unknown-unloading id f u
written-so word.Unknown id port slots bad f code valid u = u

pub written-unloading : (a : CarrierAction) (f : Floor) → is_done_code (carrier_code f a) ≡ true → IsFloor f → Unloading f → Unloading (carrier_written a f)
written-unloading a f code valid u = written-so a.word a.id a.port a.map a.bad_attr f code valid u
