-- The names that variables show (this tool's profile, variables): each is a text, as what every name holds (this tool's profile,
-- names).
use Rattle.std.specs.Prelude.{◌≡◌, ℕ, ◌+◌, ◌<◌, [], Some, slice_get, unwrap_or}
use Rattle.gem_ids.specs.Texts.{IsText}
use Rattle.gem_ids.specs.declared.numbers.LocId.TheVariants.{Aligner, Arm, Chamber}
use Rattle.load_port.specs.declared.port.Port.{Port}
use Rattle.gem_model.specs.State.{State}
use Rattle.gem_model.specs.Values.{substrate_text}

-- the names of the carriers that belong to ports are texts
abbrev pub AreCarriersNamed : State → Type 0
AreCarriersNamed g = (place : ℕ) (p : Port) → slice_get g.floor.shop.ports place ≡ Some p → IsText (unwrap_or p.carrier [])

-- the names of the substrates in the chambers are texts
abbrev pub AreChambersNamed : State → Type 0
AreChambersNamed g = (place : ℕ) → place < g.config.chambers → IsText (substrate_text g (Chamber (place + 1)))

-- the names that variables show are texts
pub record AreNamed (g : State) : Type 0 where
  pub carriers : AreCarriersNamed g
  pub arm : IsText (substrate_text g Arm)
  pub aligner : IsText (substrate_text g Aligner)
  pub chambers : AreChambersNamed g
