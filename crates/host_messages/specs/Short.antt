-- How much text a message of the host has.
use Rattle.std.specs.Prelude.{◌≤◌, ◌^◌}
use Rattle.hsms_frame.specs.declared.frame.Arrival.{Arrival}
use Rattle.tool_events.specs.Sizes.{arrival_bytes}

-- at most 536,870,912 bytes: no history holds more (this tool's profile, configuration)
abbrev pub IsShort : Arrival → Type 0
IsShort arrival = arrival_bytes arrival ≤ 2 ^ 29
