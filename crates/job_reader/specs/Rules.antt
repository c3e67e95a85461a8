-- What each key of a job file may hold: the table that the reading is driven by.
use Rattle.std.specs.Prelude.{ℕ, ◌+◌, Bool, true, false, Some, None}
use Rattle.job_reader.specs.declared.key.Key.{Key}
use Rattle.job_reader.specs.declared.key.Key.TheVariants as key
use Rattle.job_reader.specs.declared.rule.Whole.{Whole}
use Rattle.job_reader.specs.declared.rule.Signed.{Signed}
use Rattle.job_reader.specs.declared.rule.Wholes.{Wholes}
use Rattle.job_reader.specs.declared.rule.Tables.{Tables}

-- a needed whole number from least to most, and one that stands for its default where the key isn't there
abbrev pub needed : Key → ℕ → ℕ → Whole
needed k least most = record { key = k; least = least; most = most; default = None }

abbrev pub or_else : Key → ℕ → ℕ → ℕ → Whole
or_else k least most default = record { key = k; least = least; most = most; default = Some default }

-- a whole number of either sign, at most so far from 0; it stands for 0 where the key isn't there
abbrev pub either_side : Key → ℕ → Signed
either_side k most = record { key = k; most = most }

-- an array of at most so many whole numbers
abbrev pub array_of : Key → Bool → ℕ → ℕ → ℕ → Wholes
array_of k is_needed count least most = record { key = k; needed = is_needed; count = count; least = least; most = most }

-- an array of at most so many tables, and the key of the names in them
abbrev pub tables_of : Key → Key → ℕ → Tables
tables_of k name count = record { key = k; name = name; count = count }

-- the file as a whole: its version, density in kg per m³, lengths and drafts in mm, displacements in kg
abbrev pub version : Whole
version = needed key.Version 1 2

abbrev pub density : Whole
density = needed key.Density 500 2000

abbrev pub length_bp : Whole
length_bp = needed key.LengthBp 1 524287

abbrev pub margin : Whole
margin = or_else key.Margin 76 10000 76

abbrev pub drafts : Wholes
drafts = array_of key.Drafts false 64 0 131071

abbrev pub displacements : Wholes
displacements = array_of key.Displacements false 16 1 68719476736

abbrev pub items : Tables
items = tables_of key.Item key.ItemName 256

abbrev pub openings : Tables
openings = tables_of key.Opening key.OpeningName 64

abbrev pub compartments : Tables
compartments = tables_of key.Compartment key.CompartmentName 64

abbrev pub damages : Tables
damages = tables_of key.Damage key.DamageName 32

-- an item: kg, mm, mm, mm, kg·m
abbrev pub item_mass : Whole
item_mass = needed key.ItemMass 0 68719476736

abbrev pub item_x : Whole
item_x = needed key.ItemX 0 524287

abbrev pub item_y : Signed
item_y = either_side key.ItemY 65535

abbrev pub item_z : Whole
item_z = needed key.ItemZ 0 131071

abbrev pub item_free : Whole
item_free = or_else key.ItemFree 0 68719476736 0

-- an opening: mm
abbrev pub opening_y : Whole
opening_y = needed key.OpeningY 0 65535

abbrev pub opening_z : Whole
opening_z = needed key.OpeningZ 0 131071

-- a compartment: mm, mm above the aft end, thousandths
abbrev pub compartment_from : Whole
compartment_from = needed key.CompartmentFrom 0 524286

abbrev pub compartment_to : ℕ → Whole
compartment_to aft = needed key.CompartmentTo (aft + 1) 524287

abbrev pub compartment_permeability : Whole
compartment_permeability = needed key.CompartmentPermeability 0 1000

-- a damage case names at most so many compartments
abbrev pub most_flooded : ℕ
most_flooded = 64

-- the plan of floodable lengths: mm, mm, thousandths
abbrev pub floodable_centres : Wholes
floodable_centres = array_of key.FloodableCentres true 32 0 524287

abbrev pub floodable_step : Whole
floodable_step = needed key.FloodableStep 2 100000

abbrev pub floodable_permeability : Whole
floodable_permeability = needed key.FloodablePermeability 0 1000
