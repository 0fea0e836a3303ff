-- What the items that the code keeps stand for.
use Rattle.std.specs.Prelude.{Result, Ok, Err}
use Rattle.refex.specs.Pattern.{Pattern, Bytes, End, Name}
use Rattle.refex.specs.ByteSet.{holds}
use Rattle.refex.specs.Text.{Item, Atom, Open, Close, Bar, Repetition, Bad, Placed, Member, Byte, Kind}
use Rattle.refex.specs.declared.items.Atom as kept_atom
use Rattle.refex.specs.declared.items.Atom.TheVariants as atoms
use Rattle.refex.specs.declared.items.Item as kept_item
use Rattle.refex.specs.declared.items.Item.TheVariants as kept
use Rattle.refex.specs.declared.items.Token.{Token}
use Rattle.refex.specs.declared.text.Member as kept_member
use Rattle.refex.specs.declared.text.Member.TheVariants as members

abbrev pub atom_pattern : kept_atom.Atom → Pattern
atom_pattern (atoms.Bytes set) = Bytes (holds set)
atom_pattern atoms.End = End
atom_pattern atoms.Name = Name

abbrev pub item_of : kept_item.Item → Item
item_of (kept.Atom a) = Atom (atom_pattern a)
item_of (kept.Open plain) = Open plain
item_of kept.Close = Close
item_of kept.Bar = Bar
item_of (kept.Repetition bounds suffix) = Repetition bounds.least bounds.most suffix
item_of (kept.Bad fault) = Bad fault

abbrev pub placed_of : Token → Placed
placed_of token = record { at = token.at; item = item_of token.item }

abbrev pub kept_item_of : Token → Item
kept_item_of token = item_of token.item

abbrev pub member_of : kept_member.Member → Member
member_of (members.Byte b) = Byte b
member_of (members.Kind set) = Kind (holds set)

abbrev pub on_ok : {A B E : Type 0} → (A → B) → Result A E → Result B E
on_ok f (Ok x) = Ok (f x)
on_ok f (Err e) = Err e
