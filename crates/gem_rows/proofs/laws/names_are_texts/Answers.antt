use Rattle.std.proofs.Common.{refl}
use Rattle.gem_rows.specs.Variables.{variable_lines}
use Rattle.gem_rows.specs.Alarms.{alarm_lines}
use Rattle.gem_rows.proofs.NamedLines.{name_text}
use Rattle.gem_rows.proofs.laws.names_are_texts.Goals as goal

pub returns-clause-variables : goal.returns-clause-variables
returns-clause-variables c vid = name_text (variable_lines 4 8) vid refl

pub returns-clause-alarms : goal.returns-clause-alarms
returns-clause-alarms c alid = name_text (alarm_lines 10 4) alid refl
