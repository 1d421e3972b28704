use Rattle.std.proofs.Common.{length, drop, sym, ◌∙◌}
use Rattle.line_cursor.proofs.HexDigits.{no_digits, digits_read, digits_refused}
use Rattle.line_cursor.proofs.cursor.Cursor.hex.Goals as goal

pub returns-then-is_empty : goal.returns-then-is_empty
returns-then-is_empty c = no_digits c.args.self.total c.args.self.rest.now (sym c.is_empty.ensures ∙ c.if-is_empty.true)

pub returns-in-Ok-decode_to_slice : goal.returns-in-Ok-decode_to_slice
returns-in-Ok-decode_to_slice c =
    rw c.as_mut_slice.ensures.len at
    (digits_read c.args.self.total (length c.as_mut_slice.result.now) c.args.self.rest.now c.decode_to_slice.new.out (drop (length c.decode_to_slice.new.out) c.resize.new.self.items) c.decode_to_slice.result (c.as_mut_slice.ensures.len ∙ c.in-Ok.ensures.len) (sym c.is_empty.ensures ∙ c.if-is_empty.false)
    c.decode_to_slice.ensures.value c.in-Ok-decode_to_slice.is)

pub returns-in-Err : goal.returns-in-Err
returns-in-Err c =
    digits_refused c.args.self.total (length c.as_mut_slice.result.now) c.leaves_hex.result c.args.self.rest.now c.decode_to_slice.new.out c.decode_to_slice.result c.in-Err.field-0 (c.as_mut_slice.ensures.len ∙ c.in-Ok.ensures.len) (sym c.is_empty.ensures ∙ c.if-is_empty.false)
    c.decode_to_slice.ensures.value c.in-Err.is c.leaves_hex.ensures
