-- BLOCK STRINGS, BLOCK BYTES AND JOINED STRINGS: their lines give UTF-8 of scalar values, or bytes. Assumes nothing.
use Rattle.std.specs.Prelude.{List, [], ◌∷◌, ◌++◌, ℕ, ◌-◌}
use Rattle.std.proofs.Common.{arith}
use Rattle.notation.specs.Lang.{Lang, Star}
use Rattle.language.specs.BlockText.{Line, blank, line, hold, trim, lowest, unlines, body_text, Deeper, TextLine, BodyLine, Part, part, part_text, HexRest, HexLine, OpenString, PropertyString, OpenBytes, PropertyBytes}
use Rattle.language.specs.Blocks.{JoinedLine, Joined, Open}
use Rattle.spans.specs.Words.{Values, alt_words, ret_values, skip}
use Rattle.spans.specs.Ascii.{Each}
use Rattle.shaped.specs.Shaped.{Scripted, scripted_none, Octets, octets_none, Shaped, shaped_leaf, is_string, is_bytes}
use Rattle.shaped.specs.Given.{bind_values, map_values, star_values, plus_values, indented_values}
use Rattle.shaped.specs.Scripts.{scripted_append, octets_append, scripted_byte, scripted_spaces, scripted_cat}
use Rattle.shaped.specs.Quoted.{char_script, piece_script, quoted_script}
use Rattle.shaped.specs.Hex.{pairs_octets}

-- ---- block strings

abbrev LineScript : Line → Type 0
LineScript blank = Unit {0}
LineScript (line i t e) = Scripted t

hold_script : (ls : List Line) → Each LineScript ls → Each LineScript (hold ls)
hold_script [] h = tt
hold_script (l ∷ ls) h = (tt, h)

trim_script : (ls : List Line) → Each LineScript ls → Each LineScript (trim ls)
trim_script [] h = tt
trim_script (blank ∷ ls) h = hold_script (trim ls) (trim_script ls h.1)
trim_script (line i t e ∷ ls) h = (h.0, trim_script ls h.1)

unlines_script : (m : ℕ) (ls : List Line) → Each LineScript ls → Scripted (unlines m ls)
unlines_script m [] h = scripted_none
unlines_script m (blank ∷ ls) h = scripted_byte 10 (omega arith) (unlines_script m ls h.1)
unlines_script m (line i t e ∷ ls) h =
    scripted_append (scripted_append (scripted_spaces (i - m)) h.0) (scripted_byte 10 (omega arith) (unlines_script m ls h.1))

body_script : (ls : List Line) → Each LineScript ls → Scripted (body_text ls)
unfolding body_text
body_script ls h = unlines_script (lowest (trim ls)) (trim ls) (trim_script ls h)

-- on more than c spaces
deeper_values : {X : Type 0} {A : ℕ → Lang X} {R : X → Type 0} (c : ℕ) → ((i : ℕ) → Values (A i) R) → Values (Deeper c A) R
deeper_values c f = indented_values (skip (λ s. skip (λ ss. f _))) c

text_line_script : (i : ℕ) → Values (TextLine i) LineScript
text_line_script i =
    bind_values (char_script _) (λ d h. bind_values (star_values piece_script) (λ ps hs. skip (λ e. skip (λ f. ret_values (scripted_append h (scripted_cat ps hs))))))

body_given : (c : ℕ) → Values (Star (BodyLine c)) (Each LineScript)
body_given c = star_values (alt_words (skip (λ f. ret_values tt)) (deeper_values c text_line_script))

pub open_string_shaped : (k c : ℕ) → Values (OpenString c) (Shaped k)
open_string_shaped k c =
    skip
    (λ a. skip
    (λ g. bind_values
    {P = Scripted}
    (alt_words (skip (λ s. map_values (plus_values piece_script) (λ ps h. scripted_cat ps h))) (ret_values scripted_none))
    (λ t h. skip (λ e. skip (λ f. map_values (body_given c) (λ ls hs. shaped_leaf (is_string (scripted_append h (scripted_byte 10 (omega arith) (body_script ls hs))))))))))

pub property_string_shaped : (k n : ℕ) → Values (PropertyString n) (Shaped k)
property_string_shaped k n =
    skip (λ a. skip (λ g. skip (λ e. skip (λ f. map_values (body_given n) (λ ls hs. shaped_leaf (is_string (body_script ls hs)))))))

-- ---- parts, one on each line

abbrev PartHas : (List ℕ → Type 0) → Part → Type 0
PartHas P (part s e) = P s.bytes

parts_have : {P : List ℕ → Type 0} → P [] → ((s t : List ℕ) → P s → P t → P (s ++ t)) → (ps : List Part) → Each (PartHas P) ps → P (part_text ps).bytes
parts_have none also [] h = none
parts_have none also (part s e ∷ ps) h = also s.bytes (part_text ps).bytes h.0 (parts_have none also ps h.1)

octets_parts : (ps : List Part) → Each (PartHas Octets) ps → Octets (part_text ps).bytes
octets_parts = parts_have octets_none (λ s t x y. octets_append x y)

script_parts : (ps : List Part) → Each (PartHas Scripted) ps → Scripted (part_text ps).bytes
script_parts = parts_have scripted_none (λ s t x y. scripted_append x y)

hex_rest_octets : Values HexRest (PartHas Octets)
hex_rest_octets =
    bind_values
    {P = Octets}
    (alt_words (bind_values pairs_octets (λ ps h. skip (λ c. ret_values h))) (skip (λ c. ret_values octets_none)))
    (λ bs h. skip (λ e. skip (λ f. ret_values h)))

hex_line_octets : (c : ℕ) → Values (HexLine c) (PartHas Octets)
hex_line_octets c = deeper_values c (λ i. hex_rest_octets)

pub open_bytes_shaped : (k c : ℕ) → Values (OpenBytes c) (Shaped k)
open_bytes_shaped k c =
    skip
    (λ a. skip
    (λ w. bind_values hex_rest_octets (λ h x. map_values (star_values (hex_line_octets c)) (λ hs y. shaped_leaf (is_bytes (octets_parts (h ∷ hs) (x, y)))))))

pub property_bytes_shaped : (k n : ℕ) → Values (PropertyBytes n) (Shaped k)
property_bytes_shaped k n =
    skip
    (λ a. skip (λ g. skip (λ c. skip (λ f. map_values (plus_values (hex_line_octets n)) (λ hs y. shaped_leaf (is_bytes (octets_parts hs y)))))))

joined_line_script : Values JoinedLine (PartHas Scripted)
joined_line_script = bind_values quoted_script (λ s h. skip (λ e. skip (λ f. ret_values h)))

pub joined_shaped : (k m : ℕ) → Values (Joined m) (Shaped k)
joined_shaped k m =
    skip
    (λ a. bind_values
    joined_line_script
    (λ p x. map_values (plus_values (indented_values joined_line_script m)) (λ ps y. shaped_leaf (is_string (script_parts (p ∷ ps) (x, y))))))

pub open_shaped : (k c : ℕ) → Values (Open c) (Shaped k)
open_shaped k c = alt_words (open_string_shaped k c) (open_bytes_shaped k c)
