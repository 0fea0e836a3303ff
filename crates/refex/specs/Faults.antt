-- The first offence of a pattern's items from the left.
use Rattle.std.specs.Prelude.{ℕ, suc, ◌-◌, ◌==◌, Bool, true, false, if◌then◌else◌, List, [], ◌∷◌, ◌++◌, Option, None, Some, codes, decimal}
use Rattle.refex.specs.Text.{Item, Atom, Open, Close, Repetition, Bad, Placed}
use Rattle.refex.specs.declared.items.Last.{Last}
use Rattle.refex.specs.declared.items.Last.TheVariants as last
use Rattle.refex.specs.declared.faults.Offence.{Offence}
use Rattle.refex.specs.declared.faults.Offence.TheVariants.{Syntax, Unsupported}
use Rattle.refex.specs.declared.faults.RefexFault.{RefexFault}
use Rattle.refex.specs.declared.faults.RefexFault.TheVariants as faults

-- the same with one item more in front
abbrev pub closes_before : Item → ℕ → ℕ
closes_before (Open _) n = n - 1
closes_before Close n = suc n
closes_before _ n = n

-- how many groups that were opened before the items are closed in them
abbrev pub closes : List Placed → ℕ
closes [] = 0
closes (x ∷ xs) = closes_before x.item (closes xs)

-- what comes before the next item, in its branch
abbrev pub last_after : Item → Last
last_after (Atom _) = last.Atom
last_after Close = last.Atom
last_after (Repetition _ _ _) = last.Counted
last_after _ = last.Nothing

-- how many groups are open behind the item
abbrev pub depth_after : ℕ → Item → ℕ
depth_after depth (Open _) = suc depth
depth_after depth Close = depth - 1
depth_after depth _ = depth

-- what is wrong with a repetition: nothing before it that it may repeat, or a `?` or `+` right after a
-- repetition
abbrev pub repetition_fault : Last → Bool → ℕ → Option Offence
repetition_fault last.Atom suffix at = None
repetition_fault last.Counted true at = Some (Unsupported at)
repetition_fault _ _ at = Some (Syntax at)

-- what is wrong at the item's place, by what comes before it, how many groups are open there, and how many
-- groups the items behind it close
abbrev pub item_fault : Last → ℕ → Item → ℕ → ℕ → Option Offence
item_fault before depth (Bad f) at later = Some f
item_fault before depth (Open false) at later = Some (Unsupported at)
item_fault before depth (Open true) at later = if later == 0 then Some (Syntax at) else None
item_fault before depth Close at later = if depth == 0 then Some (Syntax at) else None
item_fault before depth (Repetition _ _ suffix) at later = repetition_fault before suffix at
item_fault before depth _ at later = None

abbrev pub fault_at : Last → ℕ → Placed → ℕ → Option Offence
fault_at before depth x later = item_fault before depth x.item x.at later

abbrev pub first_of : Option Offence → Option Offence → Option Offence
first_of None other = other
first_of (Some f) other = Some f

unfoldable pub first_fault : Last → ℕ → List Placed → Option Offence
first_fault before depth [] = None
first_fault before depth (x ∷ xs) = first_of (fault_at before depth x (closes xs)) (first_fault (last_after x.item) (depth_after depth x.item) xs)

abbrev pub outermost_by : ℕ → ℕ → ℕ → Item → ℕ
outermost_by depth outermost at (Open _) = if depth == 0 then at else outermost
outermost_by depth outermost at _ = outermost

-- where the outermost group that is open behind the item begins
abbrev pub outermost_after : ℕ → ℕ → Placed → ℕ
outermost_after depth outermost x = outermost_by depth outermost x.at x.item

-- how a fault is printed
abbrev pub fault_text : RefexFault → List ℕ
fault_text (faults.Syntax at) = codes "bad pattern at " ++ decimal at
fault_text (faults.TooManyPositions count) = codes "pattern has " ++ decimal count ++ codes " positions"
fault_text (faults.Unsupported at) = codes "pattern not supported at " ++ decimal at
fault_text faults.NoMemory = codes "out of memory"
