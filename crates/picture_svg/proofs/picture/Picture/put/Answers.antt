use Rattle.std.proofs.Common.{◌∙◌, is_ok}
use Rattle.picture_svg.proofs.Closed.{put-closed, put-arrows}
use Rattle.picture_svg.proofs.picture.Picture.put.Goals as goal

pub invariant_of-self : goal.invariant_of-self
invariant_of-self c =
    put-closed (is_ok c.extend_from_slice.result) c.self.inside.text.items c.args.piece.now c.extend_from_slice.new.self.items c.self.invariant c.requires c.extend_from_slice.ensures.items

pub returns : goal.returns
returns c =
    put-arrows (is_ok c.extend_from_slice.result) c.self.inside.text.items c.args.piece.now c.extend_from_slice.new.self.items c.self.invariant c.requires c.extend_from_slice.ensures.items
    ∙ c.self.view_is
