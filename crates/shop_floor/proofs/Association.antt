-- What table 7 says of a port where a row of it starts, and behind it.
use Rattle.std.proofs.Common.{◌≡◌, ℕ, Bool, true, false, List, [], ◌∷◌, Option, Some, None, is_some, refl, sym, ap, ◌∙◌}
use Rattle.gem_tables.specs.Table.{is_among, after}
use Rattle.load_port.specs.Tables.{association_table, association_number}
use Rattle.load_port.specs.declared.record.Association.{Association}
use Rattle.load_port.specs.declared.record.Association.TheVariants.{NotAssociated, Associated}
use Rattle.load_port.specs.declared.port.Port.{Port}
use Rattle.load_port.specs.Record.{port_fired, is_associated}
use Rattle.shop_floor.specs.Valid.{IsTold}

pub among_free : (a : Association) → is_among association_number (NotAssociated ∷ []) a ≡ true → a ≡ NotAssociated
among_free NotAssociated e = refl
among_free Associated e = absurd (cc)

pub among_held : (a : Association) → is_among association_number (Associated ∷ []) a ≡ true → a ≡ Associated
among_held NotAssociated e = absurd (cc)
among_held Associated e = refl

-- a row that begins an association: none belongs to the port before it, and it is ASSOCIATED behind it
pub record Begins (row : ℕ) (p : Port) : Type 0 where
  pub none : p.carrier ≡ None
  pub ends : is_associated (port_fired 7 row p.states).association ≡ true

-- a row that starts at an associated port: a carrier belongs to it; behind it the port is ASSOCIATED, or it isn't
pub record Stands (row : ℕ) (goes_on : Bool) (p : Port) : Type 0 where
  pub some : is_some p.carrier ≡ true
  pub ends : is_associated (port_fired 7 row p.states).association ≡ goes_on

no_carrier : (carrier : Option (List ℕ)) → is_some carrier ≡ false → carrier ≡ None
no_carrier None e = refl
no_carrier (Some name) e = absurd (cc)

pub begins : (row : ℕ) (p : Port) → IsTold p → is_associated (after association_number association_table row NotAssociated) ≡ true → is_among association_number (NotAssociated ∷ []) p.states.association ≡ true → Begins row p
begins row p told ends among =
    let is = among_free p.states.association among in
    record { none = no_carrier p.carrier (sym told ∙ ap is_associated is); ends = rw is ends }

pub stands : (row : ℕ) (goes_on : Bool) (p : Port) → IsTold p → is_associated (after association_number association_table row Associated) ≡ goes_on → is_among association_number (Associated ∷ []) p.states.association ≡ true → Stands row goes_on p
stands row goes_on p told ends among =
    let is = among_held p.states.association among in
    record { some = sym told ∙ ap is_associated is; ends = rw is ends }
