use Rattle.std.proofs.Common.{◌∙◌, is_ok}
use Rattle.picture_svg.proofs.Closed.{begun-closed, begun-arrows}
use Rattle.picture_svg.proofs.picture.Picture.begin_arrow.Goals as goal

pub invariant_of-self : goal.invariant_of-self
invariant_of-self c =
    begun-closed (is_ok c.extend_from_slice.result) c.self.inside.text.items c.args.name.now c.as_slice.result.now c.extend_from_slice.new.self.items
    c.self.invariant c.requires (c.as_slice.ensures.value ∙ c.in_ok-tag.ensures) c.extend_from_slice.ensures.items

pub returns : goal.returns
returns c =
    begun-arrows c.extend_from_slice.result c.self.inside.text.items c.args.name.now c.as_slice.result.now c.extend_from_slice.new.self.items c.args.self.now
    c.self.invariant c.requires (c.as_slice.ensures.value ∙ c.in_ok-tag.ensures) c.self.view_is c.extend_from_slice.ensures.items
