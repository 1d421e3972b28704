use Rattle.std.proofs.Common.{rules, ◌≡◌, ◌++◌, ◌∷◌, [], true, false, None, IfOk, OnErr, length, sym, ap, ◌∙◌}
use Rattle.history_parts.specs.CoreView.{CoreView}
use Rattle.tool_events.specs.declared.answer.Answer.{Answer}
use Rattle.tool_events.specs.Posts as posts
use Rattle.tool_events.specs.declared.config.Config.{Config}
use Rattle.tool_lock.specs.Passes.{pass_number, front, mine}
use Rattle.gem_model.specs.Step.{step}
use Rattle.gem_model.specs.Sizes.{is_full}
use Rattle.shared_tool.specs.declared.posted.Posted.{Posted}
use Rattle.shared_tool.specs.Posts.{posted, posted_in, begun}
use Rattle.shared_tool.specs.Chairs.{config_of}
use Rattle.shared_tool.proofs.Holding.{longer, known_at, known_as, last_in, appends, full_at, as_long, mine_more, mine_same, refused_same}
use Rattle.shared_tool.proofs.shared.Shared+Held+C.post.Goals as goal

pub turn-requires-clause-turn : goal.turn-requires-clause-turn
turn-requires-clause-turn g c x begins from =
    let old = g.C.Recorder.view x.core in (
      λ lent shows. search rules,
      λ r x' gave.
          let new = g.C.Recorder.view x'.core in
          let shows = gave.shows in
          let met = gave.met in
          let leaves = gave.leaves in
          let config : new.config ≡ old.config = search rules in
          let grew : IfOk r (λ (a : Answer). posted_in new.config new.history ≡ posted_in old.config old.history ++ posted (pass_number c.args.chair.now) c.args.at.0 c.args.event a ∷ []) = search rules in
          let stays : OnErr r (new.history ≡ old.history) = search rules in (
            appends (posted_in old.config old.history) (posted_in new.config new.history) r (pass_number c.args.chair.now) c.args.at.0 c.args.event grew
                (refused_same old.config new.config old.history new.history r config stays),
            ap begun config,
          ),
    )

pub returns-clause-later : goal.returns-clause-later
returns-clause-later g c =
    let t = c.turn.ensures.turn in
    let x = t.0 in
    let old = g.C.Recorder.view x.core in
    let x' = t.1 in
    let new = g.C.Recorder.view x'.core in
    longer (λ (e : Posted). e.seat) (pass_number c.args.chair.now) (front c.args.chair.now) (posted_in old.config old.history) (posted_in new.config new.history) (front c.turn.new.pass) (mine c.args.chair.now) (mine c.turn.new.pass) t.2 t.4 t.5

pub returns-clause-recorded : goal.returns-clause-recorded
returns-clause-recorded g c =
    let t = c.turn.ensures.turn in
    let x' = t.1 in
    let new = g.C.Recorder.view x'.core in
    let from : Config = config_of c.args.self.now in
    let same : new.config ≡ from = ap (λ (v : CoreView). v.config) t.7 in (
      new.state,
      known_at new.config new.history new.state from (front c.turn.new.pass) x'.bounded x'.legal x'.there same t.4,
      known_as new.config new.history new.state from (front c.turn.new.pass) x'.legal x'.there same t.4,
    )

pub returns-clause-last : goal.returns-clause-last
returns-clause-last g c =
    let t = c.turn.ensures.turn in
    let x = t.0 in
    let old = g.C.Recorder.view x.core in
    let x' = t.1 in
    let new = g.C.Recorder.view x'.core in
    let met = t.3.met in
    let from : Config = config_of c.args.self.now in
    let same : old.config ≡ from = ap (λ (v : CoreView). v.config) t.6 in
    let grew : IfOk c.turn.result (λ (a : Answer). posted_in new.config new.history ≡ posted_in old.config old.history ++ posted (pass_number c.args.chair.now) c.args.at.0 c.args.event a ∷ []) = search rules in
    let fits : IfOk c.turn.result (λ (a : Answer). is_full old.config old.history c.args.event ≡ false) = search rules in
    last_in old.config old.history old.state from (posted_in new.config new.history) (front c.turn.new.pass) c.turn.result (pass_number c.args.chair.now) c.args.at.0 c.args.event x.legal x.there same t.4 grew fits

pub returns-clause-mine : goal.returns-clause-mine
returns-clause-mine g c =
    let t = c.turn.ensures.turn in
    let x = t.0 in
    let old = g.C.Recorder.view x.core in
    let x' = t.1 in
    let new = g.C.Recorder.view x'.core in
    let met = t.3.met in
    let grew : IfOk c.turn.result (λ (a : Answer). posted_in new.config new.history ≡ posted_in old.config old.history ++ posted (pass_number c.args.chair.now) c.args.at.0 c.args.event a ∷ []) = search rules in
    mine_more (λ (e : Posted). e.seat) (pass_number c.args.chair.now) (posted_in old.config old.history) (posted_in new.config new.history) (mine c.args.chair.now) (mine c.turn.new.pass) c.turn.result (pass_number c.args.chair.now) c.args.at.0 c.args.event grew t.5

pub returns-clause-refused : goal.returns-clause-refused
returns-clause-refused g c =
    let t = c.turn.ensures.turn in
    let x = t.0 in
    let old = g.C.Recorder.view x.core in
    let x' = t.1 in
    let new = g.C.Recorder.view x'.core in
    let met = t.3.met in
    let config : new.config ≡ old.config = ap (λ (v : CoreView). v.config) t.7 ∙ sym (ap (λ (v : CoreView). v.config) t.6) in
    let stays : OnErr c.turn.result (new.history ≡ old.history) = search rules in
    let same = refused_same old.config new.config old.history new.history c.turn.result config stays in
    mine_same (λ (e : Posted). e.seat) (pass_number c.args.chair.now) (posted_in old.config old.history) (posted_in new.config new.history) (mine c.args.chair.now) (mine c.turn.new.pass) c.turn.result same t.5

pub returns-clause-again : goal.returns-clause-again
returns-clause-again g c again =
    let t = c.turn.ensures.turn in
    let x = t.0 in
    let old = g.C.Recorder.view x.core in
    let x' = t.1 in
    let new = g.C.Recorder.view x'.core in
    let met = t.3.met in
    let from : Config = config_of c.args.self.now in
    let same : old.config ≡ from = ap (λ (v : CoreView). v.config) t.6 in
    let none : step old.state c.args.at.0 c.args.event ≡ None = search rules in
    let stays : new.history ≡ old.history = search rules in
    let config : new.config ≡ old.config = ap (λ (v : CoreView). v.config) t.7 ∙ sym same in
    let here : front c.turn.new.pass ≡ posted_in old.config old.history = t.4 ∙ ap (λ (k : Config). posted_in k new.history) config ∙ ap (posted_in old.config) stays in
    (old.state, known_at old.config old.history old.state from (front c.turn.new.pass) x.bounded x.legal x.there same here, none)

pub returns-clause-full : goal.returns-clause-full
returns-clause-full g c n full =
    let t = c.turn.ensures.turn in
    let x = t.0 in
    let old = g.C.Recorder.view x.core in
    let x' = t.1 in
    let new = g.C.Recorder.view x'.core in
    let met = t.3.met in
    let from : Config = config_of c.args.self.now in
    let same : old.config ≡ from = ap (λ (v : CoreView). v.config) t.6 in
    let told : posts.is_full c.turn.result ≡ true = ap posts.is_full full in
    let many : n ≡ length old.history = search rules in
    let room : is_full old.config old.history c.args.event ≡ true = search rules in
    let stays : new.history ≡ old.history = search rules in
    let config : new.config ≡ old.config = ap (λ (v : CoreView). v.config) t.7 ∙ sym same in
    let here : front c.turn.new.pass ≡ posted_in old.config old.history = t.4 ∙ ap (λ (k : Config). posted_in k new.history) config ∙ ap (posted_in old.config) stays in (
      many ∙ sym (as_long old.config old.history old.state (front c.turn.new.pass) x.legal x.there here),
      full_at old.config old.history old.state from (front c.turn.new.pass) c.args.event x.legal x.there same here room,
    )
