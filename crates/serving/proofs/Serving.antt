-- What serve did, from what its parts did.
use Rattle.std.proofs.Common.{◌≡◌, ℕ, Option, List, sym, ap, ◌∙◌, subst}
use Rattle.gem_ids.specs.declared.moment.Moment.{Moment}
use Rattle.tool_events.specs.declared.config.Config.{Config}
use Rattle.tool_events.specs.declared.entry.Entry.{Entry}
use Rattle.source_lines.specs.Reads.{SourceTold}
use Rattle.host_actor.specs.declared.bytes.SessionBytes.{SessionBytes}
use Rattle.outside.specs.Told.{AtPort}
use Rattle.host_actor.specs.Links.{LinkTold, DoorTold}
use Rattle.tool_crew.specs.declared.ends.Ends.{Ends}
use Rattle.tool_crew.specs.Crews.{Outside, outside}
use Rattle.tool_crew.specs.Ran.{RunDid}
use Rattle.run_causes.specs.declared.cause.Cause.{Cause}
use Rattle.line_feeding.specs.declared.ended.SessionNote.{SessionNote}
use Rattle.line_feeding.specs.Going.{SinkView}
use Rattle.session_laws.proofs.Whole.{sessions_kept}
use Rattle.serving.specs.Served.{asked, Closed, Ran}

-- ---- a door that was opened

abbrev door_of : {L : Type 0} → Option (List L) → Option (List L) → Option ℕ → ℕ → ℕ → ℕ → ℕ → DoorTold L
door_of left backs port faults links waits closings = record { left = left; backs = backs; port = port; faults = faults; links = links; waits = waits; closings = closings }

-- only its port and its faults may have changed
pub door_stays : {L : Type 0} (d d' : DoorTold L) → d'.left ≡ d.left → d'.backs ≡ d.backs → d'.links ≡ d.links → d'.waits ≡ d.waits → d'.closings ≡ d.closings
    → d' ≡ record d { port = d'.port; faults = d'.faults }
door_stays d d' left backs links waits closings =
    ap (λ x. door_of x d'.backs d'.port d'.faults d'.links d'.waits d'.closings) left
    ∙ (ap (λ x. door_of d.left x d'.port d'.faults d'.links d'.waits d'.closings) backs
    ∙ (ap (λ x. door_of d.left d.backs d'.port d'.faults x d'.waits d'.closings) links
    ∙ (ap (λ x. door_of d.left d.backs d'.port d'.faults d.links x d'.closings) waits
    ∙ ap (λ x. door_of d.left d.backs d'.port d'.faults d.links d.waits x) closings)))

-- and those neither, but for its port
pub door_same : {L : Type 0} (d d' : DoorTold L) → d'.left ≡ d.left → d'.backs ≡ d.backs → d'.links ≡ d.links → d'.waits ≡ d.waits → d'.closings ≡ d.closings → d'.faults ≡ d.faults
    → d' ≡ record d { port = d'.port }
door_same d d' left backs links waits closings faults =
    door_stays d d' left backs links waits closings ∙ ap (λ x. door_of d.left d.backs d'.port x d.links d.waits d.closings) faults

-- ---- a run

-- the door that was opened at this port is the one with which the run ended
asked_as : {L : Type 0} (told : L → LinkTold) (door opened : DoorTold L) (script : SourceTold) (moments : Option (List Moment)) (port : Option ℕ)
    → opened ≡ record door { port = opened.port } → port ≡ opened.port → outside opened script moments ≡ asked (outside door script moments) port
asked_as {L} told door opened script moments port is_opened stays =
    ap (λ (d : DoorTold L). outside d script moments) is_opened
    ∙ ap (λ (p : Option ℕ). asked (outside door script moments) p) (sym stays)

pub ran_from : {L : Type 0} (told : L → LinkTold) (door opened : DoorTold L) (script : SourceTold) (moments : Option (List Moment)) (out' : Outside L) (c kept : Config) (history given : List Entry)
    (sessions : List SessionBytes) (script_bytes : ℕ) (ends : Ends) (why : Cause) (log log' : SinkView) (notes : List SessionNote)
    → opened ≡ record door { port = opened.port } → AtPort opened.port c.tcp_port → RunDid told (outside opened script moments) out' c history sessions script_bytes ends → kept ≡ c → given ≡ history
    → Closed kept history sessions script_bytes ends why log log' notes → Ran told c why (outside door script moments) out' log log' given notes
ran_from {L} told door opened script moments out' c kept history given sessions script_bytes ends why log log' notes is_opened at_port did is_kept is_given closed =
    let stays : out'.door.port ≡ opened.port = did.host.did.port in
    let out : Outside L = outside door script moments in
    let asked_so : outside opened script moments ≡ asked out out'.door.port = asked_as told door opened script moments out'.door.port is_opened stays in
    let run : RunDid told (asked out out'.door.port) out' c given sessions script_bytes ends =
    subst (λ h. RunDid told (asked out out'.door.port) out' c h sessions script_bytes ends) (sym is_given)
    (subst (λ o. RunDid told o out' c history sessions script_bytes ends) asked_so did) in
    let k = sessions_kept told (asked out out'.door.port) out' c given sessions script_bytes ends run in
    record {
      sessions = sessions;
      script_bytes = script_bytes;
      ends = ends;
      port = subst (λ p. AtPort p c.tcp_port) (sym stays) at_port;
      run = run;
      kept = record {
        all = k.all;
        unmade = k.unmade;
        few = k.few;
        kept = k.kept;
        given = k.given;
        back = k.back;
        links = k.links;
        are_noted = k.are_noted;
      };
      closed = subst (λ h. Closed c h sessions script_bytes ends why log log' notes) (sym is_given)
          (subst (λ k. Closed k history sessions script_bytes ends why log log' notes) is_kept closed);
    }
