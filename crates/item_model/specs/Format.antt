-- The formats of items (SEMI E5, item formats).
use Rattle.std.specs.Prelude.{◌≢◌, ℕ}
use Rattle.item_model.specs.declared.format.Format.{Format}
use Rattle.item_model.specs.declared.format.Format.TheVariants as format

-- the format codes (SEMI E5, item format codes, there printed in octal)
abbrev pub code : Format → ℕ
code format.List = 0
code format.Binary = 8
code format.Bool = 9
code format.Ascii = 16
code format.I8 = 24
code format.I1 = 25
code format.I2 = 26
code format.I4 = 28
code format.U8 = 40
code format.U1 = 41
code format.U2 = 42
code format.U4 = 44

-- how many bytes an element has; the length of a list counts its items, and is a multiple of anything
abbrev pub width : Format → ℕ
width format.List = 1
width format.Binary = 1
width format.Bool = 1
width format.Ascii = 1
width format.I8 = 8
width format.I1 = 1
width format.I2 = 2
width format.I4 = 4
width format.U8 = 8
width format.U1 = 1
width format.U2 = 2
width format.U4 = 4

-- no format of this tool has the code
abbrev pub IsNoCode : ℕ → Type 0
IsNoCode n = (f : Format) → code f ≢ n
