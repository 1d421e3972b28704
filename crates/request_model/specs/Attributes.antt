-- The attributes of S14F9, by which a control job is created (SEMI E94, S14F9; this tool's profile, messages).
use Rattle.std.specs.Prelude.{ℕ, ◌==◌, Bool, true, not, ◌&&◌, if◌then◌else◌, List, [], ◌∷◌, codes, length, filter, find, Option, Some, None, is_some, option_map, option_and_then, unwrap_or}
use Rattle.std.specs.List.{list_any, list_all}
use Rattle.std.specs.Str.{bytes_eq}
use Rattle.item_model.specs.Data.{Data}
use Rattle.message_model.specs.Bodies.{Form, any, each, flag, l3, text}

-- an attribute: its name, and its value
abbrev pub Attribute : Type 0
Attribute = List ℕ × Data

-- the attributes that are read
abbrev pub object_id : List ℕ
object_id = codes "ObjID"

abbrev pub processing_control : List ℕ
processing_control = codes "ProcessingCtrlSpec"

abbrev pub start_method : List ℕ
start_method = codes "StartMethod"

-- those that are taken unused
abbrev pub unused : List (List ℕ)
unused =
    codes "CarrierInputSpec" ∷ codes "MtrlOutSpec" ∷ codes "MtrlOutByStatus" ∷ codes "PauseEvent" ∷ codes "ProcessOrderMgmt"
    ∷ codes "DataCollectionPlan" ∷ []

abbrev pub has_name : List ℕ → Attribute → Bool
has_name name a = bytes_eq a.0 name

-- a name is one of an attribute
abbrev pub is_offered : List ℕ → Bool
is_offered name = list_any (bytes_eq name) (object_id ∷ processing_control ∷ start_method ∷ unused)

-- the first value that is given under a name
abbrev pub value_of : List ℕ → List Attribute → Option Data
value_of name given = option_map (λ a. a.1) (find (has_name name) given)

-- one value is given under a name
abbrev pub is_given_once : List ℕ → List Attribute → Bool
is_given_once name given = length (filter (has_name name) given) == 1

-- the process jobs that are named: L of text, or L of L[text, any, any]
abbrev pub job_with_more : Form (List ℕ)
job_with_more = l3 (λ job one other. job) text any any

abbrev pub named_jobs : Form (List (List ℕ))
named_jobs d = if is_some (each text d) then each text d else each job_with_more d

-- the value is of this form, or there is none
abbrev pub is_well_formed : {A : Type 0} → Form A → Option Data → Bool
is_well_formed form None = true
is_well_formed form (Some d) = is_some (form d)

-- each name is given once
abbrev pub is_each_once : List Attribute → Bool
is_each_once [] = true
is_each_once (a ∷ later) = not (list_any (has_name a.0) later) && is_each_once later

-- each attribute is one that there is, is given once, and has a value of its form where it is read
abbrev pub are_taken : List Attribute → Bool
are_taken given =
    ((list_all (λ a. is_offered a.0) given && is_each_once given) && is_well_formed text (value_of object_id given))
    && (is_well_formed named_jobs (value_of processing_control given) && is_well_formed flag (value_of start_method given))

-- the name of the control job: the text of ObjID where that is given once and is text, else empty
abbrev pub object_named : List Attribute → List ℕ
object_named given = if is_given_once object_id given then unwrap_or (option_and_then text (value_of object_id given)) [] else []

-- the process jobs that it names; none where ProcessingCtrlSpec isn't given
abbrev pub jobs_named : List Attribute → List (List ℕ)
jobs_named given = unwrap_or (option_and_then named_jobs (value_of processing_control given)) []

-- it starts by itself, where StartMethod is true or not given
abbrev pub starts_itself : List Attribute → Bool
starts_itself given = unwrap_or (option_and_then flag (value_of start_method given)) true
