-- QUOTED STRINGS AND KEYS: characters and escapes give UTF-8 of scalar values. Assumes nothing.
use Rattle.std.specs.Prelude.{◌≡◌, refl, List, [], ◌∷◌, Bool, true, false, ℕ, ◌≤◌, length, leb}
use Rattle.std.proofs.Common.{arith}
use Rattle.notation.specs.Class.{pick, ◌to◌, Class, is, only}
use Rattle.notation.specs.Lang.{Lang, Star}
use Rattle.language.specs.Kind.{KEY}
use Rattle.language.specs.Tree.{Decoded, together, Tree, leaf}
use Rattle.language.specs.Characters.{Char, char, Space, Piece}
use Rattle.language.specs.Strings.{hex_number, scalar, lettered, stands_for, Code, Escape, SingleEscape, Between, Quoted, keybyte, String, Key}
use Rattle.exact.specs.Class.{and_of}
use Rattle.spans.specs.Words.{Values, alt_words, ret_values, skip}
use Rattle.spans.specs.Ascii.{Each}
use Rattle.shaped.specs.Shaped.{Scripted, scripted_none, Shaped, shaped_leaf, is_string}
use Rattle.shaped.specs.Ranges.{up_to}
use Rattle.shaped.specs.Given.{bind_values, map_values, via_values, such_values, byte_values, star_values, plus_values}
use Rattle.shaped.specs.Scripts.{scripted_append, scripted_one, scripted_byte, scripted_bytes, character_scalar}

-- a decoded text, without how it was escaped
abbrev pub Script : Decoded → Type 0
Script s = Scripted s.bytes

-- ---- characters

pub char_script : (c : Class) → Values (Char c) Scripted
char_script c = record { has = go }
  where
    go : {at : ℕ} {s v : List ℕ} {at' : ℕ} {t : List ℕ} → Char c at s v at' t → Scripted v
    go (char v e) = scripted_one v (character_scalar c v e)

spaces_script : Values (Star Space) Scripted
spaces_script = via_values (star_values (byte_values (λ b e. up_to (only 32) 127 b refl e))) (λ ss h. scripted_bytes ss h)

pub piece_script : Values Piece Scripted
piece_script = bind_values spaces_script (λ ss h. map_values (char_script _) (λ c k. scripted_append h k))

-- ---- quoted strings and keys

pick_low : (c : Bool) {m n : ℕ} → m ≤ 127 → n ≤ 127 → pick c m n ≤ 127
pick_low true h k = h
pick_low false h k = k

stands_low : (b : ℕ) → is lettered b ≡ true → stands_for b ≤ 127
stands_low b e =
    pick_low
    (is (only 98) b)
    (omega arith)
    (pick_low
    (is (only 102) b)
    (omega arith)
    (pick_low
    (is (only 110) b)
    (omega arith)
    (pick_low (is (only 114) b) (omega arith) (pick_low (is (only 116) b) (omega arith) (up_to lettered 127 b refl e)))))

code_scalar : Values Code (λ ds. scalar (hex_number 0 ds) ≡ true)
code_scalar = such_values {P = λ ds. Unit {0}} (record { has = λ z. tt }) (λ ds h e. (and_of (leb (length ds) 6) (scalar (hex_number 0 ds)) e).1)

escape_script : Values Escape Script
escape_script =
    skip
    (λ q. alt_words
    (bind_values (byte_values stands_low) (λ b h. ret_values (scripted_byte _ h scripted_none)))
    (skip (λ w. bind_values code_scalar (λ ds h. skip (λ c. ret_values (scripted_one (hex_number 0 ds) h))))))

single_escape_script : Values SingleEscape Script
single_escape_script =
    skip
    (λ q. alt_words
    (bind_values (byte_values (λ b e. up_to ((39 to 39) ∷ (92 to 92) ∷ []) 127 b refl e)) (λ b h. ret_values (scripted_byte b h scripted_none)))
    (bind_values (char_script _) (λ c h. ret_values (scripted_byte 92 (omega arith) h))))

together_script : (ss : List Decoded) → Each Script ss → Script (together ss)
together_script [] h = scripted_none
together_script (s ∷ ss) h = scripted_append h.0 (together_script ss h.1)

between_script : (quote : ℕ) {E : Lang Decoded} (others : Class) → Values E Script → Values (Between quote E others) Script
between_script quote others f =
    skip (λ q. bind_values (star_values (alt_words f (map_values (char_script others) (λ c h. h)))) (λ ps h. skip (λ r. ret_values (together_script ps h))))

pub quoted_script : Values Quoted Script
quoted_script = alt_words (between_script _ _ escape_script) (between_script _ _ single_escape_script)

pub string_shaped : (k : ℕ) → Values String (Shaped k)
string_shaped k = skip (λ a. bind_values quoted_script (λ s h. skip (λ e. ret_values (shaped_leaf (is_string h)))))

-- a key with a text of scalar values
pub data KeyShaped : Tree → Type 0 where
  key_shaped : {a e : ℕ} {s : Decoded} → Scripted s.bytes → KeyShaped (leaf KEY a e s)

pub key_given : Values Key KeyShaped
key_given =
    skip
    (λ a. bind_values
    {P = Script}
    (alt_words (map_values (plus_values (byte_values (λ b e. up_to keybyte 127 b refl e))) (λ s h. scripted_bytes s h)) quoted_script)
    (λ s h. skip (λ e. ret_values (key_shaped h))))
