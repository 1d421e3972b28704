use Rattle.secs_items.proofs.Decoding.{bytes_below}
use Rattle.host_messages.proofs.Texts.{short_read}
use Rattle.host_messages.proofs.arrival.read_text.Goals as goal

pub returns-clause-short : goal.returns-clause-short
returns-clause-short c short = short_read c.read_one.result c.args.text.now (bytes_below c.args.text.now c.type_inv.text) short c.read_one.ensures.exact
