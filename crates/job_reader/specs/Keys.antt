-- The keys of a job file: the table that each stands in, and the word that it is written with.
use Rattle.std.specs.Prelude.{ℕ, ◌==◌, Bool, if◌then◌else◌, codes, List, [], ◌∷◌}
use Rattle.job_reader.specs.declared.key.Key.{Key}
use Rattle.job_reader.specs.declared.key.Key.TheVariants.{Version, Density, LengthBp, Margin, Drafts, Displacements, Item, ItemName, ItemMass, ItemX, ItemY, ItemZ, ItemFree, Opening, OpeningName, OpeningY, OpeningZ, Compartment, CompartmentName, CompartmentFrom, CompartmentTo, CompartmentPermeability, Damage, DamageName, DamageFlooded, Floodable, FloodableCentres, FloodableStep, FloodablePermeability, Top}

-- whether items of a file of this version have a y, and so may stand off the centreplane
abbrev pub has_y : ℕ → Bool
has_y version = version == 2

-- the keys of the file as a whole, and of each of its tables; those of an item by the version of the file
abbrev pub top_keys : List Key
top_keys = Version ∷ Density ∷ LengthBp ∷ Margin ∷ Drafts ∷ Displacements ∷ Item ∷ Opening ∷ Compartment ∷ Damage ∷ Floodable ∷ []

abbrev pub item_keys : ℕ → List Key
item_keys version = if has_y version then ItemName ∷ ItemMass ∷ ItemX ∷ ItemY ∷ ItemZ ∷ ItemFree ∷ [] else (ItemName ∷ ItemMass ∷ ItemX ∷ ItemZ ∷ ItemFree ∷ [])

abbrev pub opening_keys : List Key
opening_keys = OpeningName ∷ OpeningY ∷ OpeningZ ∷ []

abbrev pub compartment_keys : List Key
compartment_keys = CompartmentName ∷ CompartmentFrom ∷ CompartmentTo ∷ CompartmentPermeability ∷ []

abbrev pub damage_keys : List Key
damage_keys = DamageName ∷ DamageFlooded ∷ []

abbrev pub floodable_keys : List Key
floodable_keys = FloodableCentres ∷ FloodableStep ∷ FloodablePermeability ∷ []

-- the table that a key stands in
abbrev pub table_of : Key → Key
table_of ItemName = Item
table_of ItemMass = Item
table_of ItemX = Item
table_of ItemY = Item
table_of ItemZ = Item
table_of ItemFree = Item
table_of OpeningName = Opening
table_of OpeningY = Opening
table_of OpeningZ = Opening
table_of CompartmentName = Compartment
table_of CompartmentFrom = Compartment
table_of CompartmentTo = Compartment
table_of CompartmentPermeability = Compartment
table_of DamageName = Damage
table_of DamageFlooded = Damage
table_of FloodableCentres = Floodable
table_of FloodableStep = Floodable
table_of FloodablePermeability = Floodable
table_of _ = Top

-- a key as it stands in its table
abbrev pub word_of : Key → List ℕ
word_of Version = codes "version"
word_of Density = codes "density"
word_of LengthBp = codes "length_bp"
word_of Margin = codes "margin"
word_of Drafts = codes "drafts"
word_of Displacements = codes "displacements"
word_of Item = codes "item"
word_of ItemName = codes "name"
word_of ItemMass = codes "mass"
word_of ItemX = codes "x"
word_of ItemY = codes "y"
word_of ItemZ = codes "z"
word_of ItemFree = codes "free_surface"
word_of Opening = codes "opening"
word_of OpeningName = codes "name"
word_of OpeningY = codes "y"
word_of OpeningZ = codes "z"
word_of Compartment = codes "compartment"
word_of CompartmentName = codes "name"
word_of CompartmentFrom = codes "from"
word_of CompartmentTo = codes "to"
word_of CompartmentPermeability = codes "permeability"
word_of Damage = codes "damage"
word_of DamageName = codes "name"
word_of DamageFlooded = codes "flooded"
word_of Floodable = codes "floodable"
word_of FloodableCentres = codes "centres"
word_of FloodableStep = codes "step"
word_of FloodablePermeability = codes "permeability"
word_of Top = codes "top"
