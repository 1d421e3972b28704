-- The forms of the parts of bodies that messages of jobs have beside those of all streams (after SEMI E40 and E94; this
-- tool's profile, messages).
use Rattle.std.specs.Prelude.{ℕ, List, Option, Some, None, option_map}
use Rattle.item_model.specs.Data.{Data, DataList, list, no_items, item}
use Rattle.message_model.specs.Bodies.{Form, ◌>>=◌, each, fixed, l2, l3, of_count, small_id, text}
use Rattle.message_model.specs.declared.material.CarrierSlots.{CarrierSlots}

-- the values of four items
abbrev pub four : {A B C D Z : Type 0} → (A → B → C → D → Z) → Form A → Form B → Form C → Form D → DataList → Option Z
four made f g h i (item a (item b (item c (item d no_items)))) = f a >>= λ w. g b >>= λ x. h c >>= λ y. option_map (made w x y) (i d)
four made f g h i ds = None

-- L[a, b, c, d]
abbrev pub l4 : {A B C D Z : Type 0} → (A → B → C → D → Z) → Form A → Form B → Form C → Form D → Form Z
l4 made f g h i d = of_count 4 d >>= four made f g h i

-- the values of seven items
abbrev pub seven : {A B C D E F G Z : Type 0} → (A → B → C → D → E → F → G → Z) → Form A → Form B → Form C → Form D → Form E → Form F → Form G → DataList → Option Z
seven made f g h i j k l (item a (item b (item c (item d (item e (item m (item n no_items))))))) =
    f a >>= λ t. g b >>= λ u. h c >>= λ v. i d >>= λ w. j e >>= λ x. k m >>= λ y. option_map (made t u v w x y) (l n)
seven made f g h i j k l ds = None

-- L[a, b, c, d, e, f, g]
abbrev pub l7 : {A B C D E F G Z : Type 0} → (A → B → C → D → E → F → G → Z) → Form A → Form B → Form C → Form D → Form E → Form F → Form G → Form Z
l7 made f g h i j k l d = of_count 7 d >>= seven made f g h i j k l

-- L: any list
abbrev pub any_list : Form Data
any_list (list ds) = Some (list ds)
any_list d = None

-- L[text carrier, L[u1 slot*]]
abbrev pub carrier_slots : Form CarrierSlots
carrier_slots = l2 (λ carrier slots. record { carrier = carrier; slots = slots }) text (each small_id)

-- L[u1 1, text recipe, L]: the recipe, and its variables
abbrev pub recipe_part : Form (List ℕ × Data)
recipe_part = l3 (λ method recipe variables. (recipe, variables)) (fixed 1 small_id) text any_list
