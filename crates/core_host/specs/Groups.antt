-- The messages of streams 1, 2, 5 and 6 by what they do beside being answered. S2F41 is in none of these groups.
use Rattle.std.specs.Prelude.{Bool, true, false}
use Rattle.message_model.specs.declared.gem_primary.GemMsg.{GemMsg}
use Rattle.message_model.specs.declared.gem_primary.GemMsg.TheVariants as msg

-- it only asks, and the tool stays as it is
abbrev pub only_asks : GemMsg → Bool
only_asks msg.S1F1 = true
only_asks (msg.S1F3 ids) = true
only_asks (msg.S1F11 ids) = true
only_asks (msg.S2F13 ids) = true
only_asks msg.S2F17 = true
only_asks (msg.S2F29 ids) = true
only_asks (msg.S5F5 ids) = true
only_asks msg.S5F7 = true
only_asks (msg.S6F15 ceid) = true
only_asks (msg.S6F19 rptid) = true
only_asks _ = false

-- it sets something, and no row fires
abbrev pub sets : GemMsg → Bool
sets (msg.S2F15 settings) = true
sets (msg.S2F31 text) = true
sets (msg.S2F33 id reports) = true
sets (msg.S2F35 id events) = true
sets (msg.S2F37 on ceids) = true
sets (msg.S2F43 entries) = true
sets (msg.S5F3 aled alid) = true
sets _ = false

-- its row fires, and it sets nothing itself
abbrev pub fires : GemMsg → Bool
fires msg.S1F13 = true
fires msg.S1F15 = true
fires msg.S1F17 = true
fires (msg.S6F23 rsdc) = true
fires _ = false
