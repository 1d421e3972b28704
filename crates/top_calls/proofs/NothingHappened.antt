-- What a run did that took no configuration.
use Rattle.std.proofs.Common.{◌≡◌, ◌≢◌, ℕ, List, [], Option, inl, inr, refl, arith}
use Rattle.tool_events.specs.declared.config.Config.{Config}
use Rattle.tool_events.specs.declared.entry.Entry.{Entry}
use Rattle.tool_events.specs.Configs.{IsConfig}
use Rattle.gem_model.specs.Conversation.{worked_config}
use Rattle.history_laws.proofs.Recording.{recorded-none}
use Rattle.run_causes.specs.declared.cause.Cause.{Cause}
use Rattle.run_causes.specs.declared.cause.Cause.TheVariants as cause
use Rattle.line_feeding.specs.CauseOf.{Refuses}
use Rattle.line_feeding.specs.Fed.{SourceView, Fed, Shown, IsRead, Configured, RanUnder}
use Rattle.feeding.proofs.Ending.{Fed-refused, Shown-refused}
use Rattle.top_calls.specs.Ran.{ReadFirst}

-- the worked configuration keeps its bounds
worked_is : IsConfig worked_config
worked_is = record {
  device = omega arith;
  mdln_some = omega arith;
  mdln = omega arith;
  softrev_some = omega arith;
  softrev = omega arith;
  chambers_some = omega arith;
  chambers = omega arith;
  ports_some = omega arith;
  ports = omega arith;
  spool_some = omega arith;
  spool = omega arith;
  transmit = omega arith;
  t3_least = omega arith;
  t3 = omega arith;
  t6_least = omega arith;
  t6 = omega arith;
  t7_least = omega arith;
  t7 = omega arith;
  establish_least = omega arith;
  establish = omega arith;
  linktest = omega arith;
  entries_some = omega arith;
  entries = omega arith;
  bytes = omega arith;
  start = omega arith;
  recipes = refl;
}

-- a run that reads no input does nothing under a configuration
ran-nothing : (why : Cause) (input : SourceView) (held : Option (List ℕ)) → Fed worked_config why input input [] [] → Shown worked_config why held held [] → RanUnder worked_config why input input held held [] []
ran-nothing why input held fed printed = record {
  recorded = recorded-none worked_config [] worked_is refl;
  entries_fit = omega arith;
  bytes_fit = omega arith;
  fed = fed;
  printed = printed;
}

-- what was read of a configuration that was not taken
configured-refused : (why : Cause) (config config' : SourceView) → Refuses why config config' → Configured worked_config why config config' []
configured-refused (cause.Config rule key) config config' h = h
configured-refused cause.ReadFault config config' h = inr refl
configured-refused cause.NoMemory config config' h = inr refl
configured-refused _ config config' h = absurd h

-- a run that took no configuration
pub ran_refused : (why : Cause) (config config' input : SourceView) (held : Option (List ℕ)) → Refuses why config config' → (c : Config) × Configured c why config config' [] × RanUnder c why input input held held [] [] × ReadFirst c config config' input input
ran_refused why config config' input held h = (worked_config, configured-refused why config config' h, ran-nothing why input held (Fed-refused worked_config why config config' input h) (Shown-refused worked_config why config config' held h), inr refl)
