-- The alarms of a plant stay the same.
use Rattle.std.proofs.Common.{◌≡◌, ◌≤◌, ◌==◌, ℕ, suc, Bool, true, false, cond, if◌then◌else◌, List, [], ◌∷◌, length, map, Option, refl, arith}
use Rattle.std.specs.List.{filter}
use Rattle.event_reports.specs.Alarms.{AlarmLine, line_marked, is_meant, line_enabled, alarm_marked, alarms_enabled, set_alids}

map-alids : (f : AlarmLine → AlarmLine) → ((a : AlarmLine) → (f a).alid ≡ a.alid) → (alarms : List AlarmLine) → map (λ (a : AlarmLine). a.alid) (map f alarms) ≡ map (λ (a : AlarmLine). a.alid) alarms
map-alids f same [] = refl
map-alids f same (a ∷ alarms) = rw (same a, map-alids f same alarms) refl

marked-alid : (on : Bool) (alid : ℕ) (a : AlarmLine) → (line_marked on alid a).alid ≡ a.alid
marked-alid on alid a = by_name (a.alid == alid) where
  by_name : (b : Bool) → (if b then record a { is_set = on } else a).alid ≡ a.alid
  by_name true = refl
  by_name false = refl

enabled-alid : (on : Bool) (alid : Option ℕ) (a : AlarmLine) → (line_enabled on alid a).alid ≡ a.alid
enabled-alid on alid a = by_name (is_meant alid a) where
  by_name : (b : Bool) → (if b then record a { enabled = on } else a).alid ≡ a.alid
  by_name true = refl
  by_name false = refl

pub same-marked : (on : Bool) (alid : ℕ) (alarms : List AlarmLine) → map (λ (a : AlarmLine). a.alid) (alarm_marked on alid alarms) ≡ map (λ (a : AlarmLine). a.alid) alarms
same-marked on alid alarms = map-alids (line_marked on alid) (marked-alid on alid) alarms

pub same-alarms_enabled : (on : Bool) (alid : Option ℕ) (alarms : List AlarmLine) → map (λ (a : AlarmLine). a.alid) (alarms_enabled on alid alarms) ≡ map (λ (a : AlarmLine). a.alid) alarms
same-alarms_enabled on alid alarms = map-alids (line_enabled on alid) (enabled-alid on alid) alarms

pub few_set : (alarms : List AlarmLine) → length (set_alids alarms) ≤ length alarms
few_set [] = omega arith
few_set (a ∷ alarms) = by_set a.is_set (few_set alarms) where
  by_set : (b : Bool) → length (set_alids alarms) ≤ length alarms → length (map (λ (x : AlarmLine). x.alid) (cond b (a ∷ filter (λ x. x.is_set) alarms) (filter (λ x. x.is_set) alarms))) ≤ suc (length alarms)
  by_set true rest = omega arith
  by_set false rest = omega arith
