-- Packets, as Git's protocol-common has them under "pkt-line Format": four hex digits, the pkt-len, that
-- count themselves and the payload after them; or the four digits of 0, the flush-pkt.
use Rattle.std.specs.Prelude.{◌≡◌, ℕ, ◌+◌, ◌-◌, ◌*◌, ◌/◌, ◌%◌, ◌≤◌, ◌==◌, nat_le, nat_lt, ◌&&◌, ◌||◌, if◌then◌else◌, List, [], ◌∷◌, ◌++◌, length, take, drop, None, Some}
use Rattle.std.specs.declared.option.Option.{Option}
use Rattle.base_types.specs.Fronts.{Front, Whole, Broken, Partial}
use Rattle.pktline_core.specs.declared.packets.PktFault.{PktFault}
use Rattle.pktline_core.specs.declared.packets.PktFault.TheVariants.{Truncated, BadLength}

pub data Packet : Type 0 where
  -- a line with this payload
  Line : List ℕ → Packet
  Flush : Packet

-- the value of a hex digit: 0 to 9, a to f, A to F
abbrev pub digit_value : ℕ → Option ℕ
digit_value c =
    if nat_le 48 c && nat_le c 57 then Some (c - 48)
    else if nat_le 97 c && nat_le c 102 then Some (c - 87)
    else if nat_le 65 c && nat_le c 70 then Some (c - 55)
    else None

-- a number with one more digit behind it
abbrev pub with_digit : Option ℕ → Option ℕ → Option ℕ
with_digit (Some n) (Some d) = Some (16 * n + d)
with_digit _ _ = None

-- the number that four hex digits spell, the highest first
abbrev pub number_of : List ℕ → Option ℕ
number_of (a ∷ b ∷ c ∷ d ∷ []) = with_digit (with_digit (with_digit (digit_value a) (digit_value b)) (digit_value c)) (digit_value d)
number_of bytes = None

-- The grammar: these bytes, all of them, are a spelling of this packet. A packet has at most 65,520 bytes.
abbrev pub IsPacket : List ℕ → Packet → Type 0
IsPacket bytes (Line payload) = (digits : List ℕ) × (bytes ≡ digits ++ payload) × (number_of digits ≡ Some (length payload + 4)) × (length payload ≤ 65516)
IsPacket bytes Flush = number_of bytes ≡ Some 0

-- what the number says that the first four bytes spell
abbrev pub front_by_length : List ℕ → Option ℕ → Front Packet PktFault
front_by_length bytes None = Broken 4 BadLength
front_by_length bytes (Some n) =
    if n == 0 then Whole 4 Flush
    else if nat_lt n 4 || nat_lt 65520 n then Broken 4 BadLength
    else if nat_lt (length bytes) n then Partial Truncated
    else Whole n (Line (drop 4 (take n bytes)))

-- What stands at the front of an input: a packet of so many bytes, or four bytes that are no length; or the
-- input ends before that is known.
unfoldable pub packet_front : List ℕ → Front Packet PktFault
packet_front bytes = if nat_lt (length bytes) 4 then Partial Truncated else front_by_length bytes (number_of (take 4 bytes))

-- the lower-case digit of a value below 16
abbrev pub hex_digit : ℕ → ℕ
hex_digit d = if nat_lt d 10 then 48 + d else 87 + d

-- four lower-case digits of a number below 65,536
abbrev pub four_digits : ℕ → List ℕ
four_digits n = hex_digit (n / 4096 % 16) ∷ hex_digit (n / 256 % 16) ∷ hex_digit (n / 16 % 16) ∷ hex_digit (n % 16) ∷ []

-- The spelling in which a packet is written, with a lower-case length.
unfoldable pub spelling : Packet → List ℕ
spelling (Line payload) = four_digits (length payload + 4) ++ payload
spelling Flush = 48 ∷ 48 ∷ 48 ∷ 48 ∷ []
