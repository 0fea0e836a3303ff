-- Frames of a script, by their spelling.
use Rattle.std.specs.Prelude.{◌≡◌, ⊤, ℕ, ◌≤◌, List, [], ◌∷◌, ◌++◌, length, codes, decimal}
use Rattle.std.specs.List.{flat_map}

-- no byte is a line feed
abbrev pub HasNoFeed : List ℕ → Type 0
HasNoFeed [] = ⊤
HasNoFeed (b ∷ bytes) = (b ≡ 10 → ⊥) × HasNoFeed bytes

-- the word that a frame begins with, with the space behind it
pub record IsWord (word : List ℕ) : Type 0 where
  pub no_feed : HasNoFeed word
  pub short : length word ≤ 8

-- the line before a body of so many bytes, without its line feed: the word, and how many they are
unfoldable pub head_text : List ℕ → ℕ → List ℕ
head_text word size = word ++ decimal size

-- a frame: the line that says how long the body is, the body, and a line feed
unfoldable pub frame_text : List ℕ → List ℕ → List ℕ
frame_text word body = head_text word (length body) ++ 10 ∷ (body ++ 10 ∷ [])

-- how many bytes the body of a frame has at most
abbrev pub largest_body : ℕ
largest_body = 300000000

-- bodies that frames can have
abbrev pub AreBodies : List (List ℕ) → Type 0
AreBodies [] = ⊤
AreBodies (body ∷ bodies) = (length body ≤ largest_body) × AreBodies bodies

-- no frame of the word stands at the front
abbrev pub BeginsNoFrame : List ℕ → List ℕ → Type 0
BeginsNoFrame word input = (body more : List ℕ) → length body ≤ largest_body → input ≡ frame_text word body ++ more → ⊥

-- An input as a script: the bodies of the frames that stand at its front, one after the other, and what
-- follows them, which begins with no frame.
pub record IsScript (word input : List ℕ) (bodies : List (List ℕ)) (rest : List ℕ) : Type 0 where
  pub frames : input ≡ flat_map (frame_text word) bodies ++ rest
  pub small : AreBodies bodies
  pub stops : BeginsNoFrame word rest

-- An input is a script in one way.
abbrev pub OneScript : Type 0
OneScript = (word input : List ℕ) (bodies others : List (List ℕ)) (rest more : List ℕ) → IsWord word → IsScript word input bodies rest → IsScript word input others more → (bodies ≡ others) × (rest ≡ more)
