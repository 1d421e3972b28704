-- What a picture of a state model shows.
use Rattle.std.specs.Prelude.{ℕ, ◌≡◌, true, List, map}
use Rattle.state_arrows.specs.Arrows.{are_same, are_apart}
use Rattle.state_arrows.specs.Tables.{arrows_of}
use Rattle.state_arrows.specs.declared.arrow.Arrow.{Arrow}
use Rattle.state_charts.specs.Names.{arrow_name}
use Rattle.state_charts.specs.TableThree.{load_arrows, unload_arrows, note_arrows}
use Rattle.state_charts.specs.declared.chart.Chart.{Chart}
use Rattle.state_charts.specs.declared.chart.Chart.TheVariants.{Table, SpoolLoad, SpoolUnload, Notes}

-- the arrows that a picture has to show
abbrev pub arrows_of_chart : Chart → List Arrow
arrows_of_chart (Table table) = arrows_of table
arrows_of_chart SpoolLoad = load_arrows
arrows_of_chart SpoolUnload = unload_arrows
arrows_of_chart Notes = note_arrows

-- these are the names of the arrows that are wanted, in some order, and each of them stands once
pub record AreNamesOf (wanted : List Arrow) (names : List (List ℕ)) : Type 0 where
  pub arrows : List Arrow
  pub named : names ≡ map arrow_name arrows
  pub same : are_same arrows wanted ≡ true
  pub once : are_apart arrows ≡ true
