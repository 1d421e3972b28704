use Rattle.floor_laws.proofs.ShopTables.{cancel_sound}
use Rattle.floor_laws.proofs.ShopHost.{written_sound, unbinding_sound}
use Rattle.floor_laws.proofs.laws.it_is_kept_by_what_the_host_asks_of_carriers.Goals as goal

pub returns-clause-written : goal.returns-clause-written
returns-clause-written c = written_sound

pub returns-clause-unbound : goal.returns-clause-unbound
returns-clause-unbound c = unbinding_sound

pub returns-clause-cancelled : goal.returns-clause-cancelled
returns-clause-cancelled c = cancel_sound
