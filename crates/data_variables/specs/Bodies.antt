-- What messages say of the equipment constants (SEMI E5, S2F13 to S2F16, S2F29 and S2F30; this tool's profile, messages).
use Rattle.std.specs.Prelude.{ℕ, List, [], ◌∷◌, Option, Some, None, option_map, option_and_then, unwrap_or, map}
use Rattle.item_model.specs.Data.{Data, DataList, list, boolean, ascii, u4, no_items, item}
use Rattle.item_model.specs.Ids.{id_of}
use Rattle.data_variables.specs.declared.constant.Constant.{Constant}
use Rattle.data_variables.specs.declared.val.Val.{Val}
use Rattle.data_variables.specs.declared.val.Val.TheVariants.{Number, Truth}
use Rattle.data_variables.specs.Table.{constant_ids, constant_of}

-- the item of a value: U4 of one element, or BOOL of one
abbrev pub value_item : Val → Data
value_item (Number n) = u4 (n ∷ [])
value_item (Truth t) = boolean (t ∷ [])

-- the value that an item says for a number: it is an id
abbrev pub number_said : Data → Option Val
number_said d = option_map (λ n. Number n) (id_of d)

-- the value that an item says for a truth value: it is a BOOL of one element
abbrev pub truth_said : Data → Option Val
truth_said (boolean (t ∷ [])) = Some (Truth t)
truth_said d = None

-- the value that an item says, where it is of this one's kind
abbrev pub said_like : Val → Data → Option Val
said_like (Number n) d = number_said d
said_like (Truth t) d = truth_said d

-- the value that an item says for a constant, where it is of the constant's kind
abbrev pub val_in : ℕ → Data → Option Val
val_in ecid d = option_and_then (λ c. said_like c.default d) (constant_of ecid)

-- these items, one after another
abbrev pub items : List Data → DataList
items [] = no_items
items (d ∷ ds) = item d (items ds)

-- L[a, ..]
abbrev pub L : List Data → Data
L ds = list (items ds)

-- U4 of one element
abbrev pub U4 : ℕ → Data
U4 n = u4 (n ∷ [])

-- A
abbrev pub A : List ℕ → Data
A text = ascii text

-- what is told of a constant: L[U4 ecid, A name, min, max, default, A units], where the default is the table's
abbrev pub known_name : ℕ → Constant → Data
known_name ecid c =
    L (U4 ecid ∷ (A c.name ∷ (value_item c.least ∷ (value_item c.most ∷ (value_item c.default ∷ (A c.units ∷ []))))))

-- what is told of an ECID that no constant has
abbrev pub unknown_name : ℕ → Data
unknown_name ecid = L (U4 ecid ∷ (A [] ∷ (A [] ∷ (A [] ∷ (A [] ∷ (A [] ∷ []))))))

-- what is told of an ECID
abbrev pub name_item : ℕ → Data
name_item ecid = unwrap_or (option_map (known_name ecid) (constant_of ecid)) (unknown_name ecid)

-- the ECIDs that are asked for; none are all, as printed
abbrev pub asked : List ℕ → List ℕ
asked [] = constant_ids
asked (id ∷ ids) = id ∷ ids

-- the body of S2F30 for these ECIDs
abbrev pub namelist_of : List ℕ → Data
namelist_of ids = L (map name_item (asked ids))
