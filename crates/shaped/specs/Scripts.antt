-- SCALAR VALUES IN UTF-8, one behind another, and bytes: how such texts are put together. Assumes nothing.
use Rattle.std.specs.Prelude.{◌≡◌, refl, List, [], ◌∷◌, ◌++◌, ◌⊎◌, Bool, true, false, ℕ, zero, suc, ◌%◌, ◌≤◌, leb}
use Rattle.std.proofs.Common.{subst, append_assoc, append-nil, inl, inr, arith, leb-true}
use Rattle.notation.specs.Class.{pick, and, ◌to◌, Class, is}
use Rattle.notation.specs.Lang.{cat}
use Rattle.language.specs.Characters.{utf8, wide, character}
use Rattle.language.specs.Strings.{scalar}
use Rattle.language.specs.BlockText.{spaces}
use Rattle.exact.specs.Class.{and_of, or_of, or_left, and_true, leb_yes, inside}
use Rattle.spans.specs.Ascii.{Each}
use Rattle.shaped.specs.Shaped.{Scripted, scripted_none, scripted_more, Octets, octets_none, octets_more}

pub scripted_append : {s t : List ℕ} → Scripted s → Scripted t → Scripted (s ++ t)
scripted_append scripted_none y = y
scripted_append {t = t} (scripted_more {s = s} v h x) y = rw (append_assoc (utf8 v) s t) (scripted_more v h (scripted_append x y))

pub octets_append : {s t : List ℕ} → Octets s → Octets t → Octets (s ++ t)
octets_append octets_none y = y
octets_append (octets_more h x) y = octets_more h (octets_append x y)

-- one scalar value
pub scripted_one : (v : ℕ) → scalar v ≡ true → Scripted (utf8 v)
scripted_one v h = subst Scripted (append-nil (utf8 v)) (scripted_more v h scripted_none)

-- a byte below 128 is a scalar value, and its own UTF-8
low_scalar : (b : ℕ) → b ≤ 127 → scalar b ≡ true
low_scalar b h = or_left (is ((0xE000 to 0x10FFFF) ∷ []) b) (and_true (leb_yes 0 b (omega arith)) (leb_yes b 0xD7FF (omega arith)))

low_utf8 : (b : ℕ) → b ≤ 127 → utf8 b ≡ b ∷ []
low_utf8 b h = rw (leb_yes b 127 h)

pub scripted_byte : {s : List ℕ} (b : ℕ) → b ≤ 127 → Scripted s → Scripted (b ∷ s)
scripted_byte {s} b h x = subst (λ (l : List ℕ). Scripted (l ++ s)) (low_utf8 b h) (scripted_more b (low_scalar b h) x)

pub scripted_bytes : (s : List ℕ) → Each (λ b. b ≤ 127) s → Scripted s
scripted_bytes [] h = scripted_none
scripted_bytes (b ∷ s) h = scripted_byte b h.0 (scripted_bytes s h.1)

pub scripted_spaces : (n : ℕ) → Scripted (spaces n)
scripted_spaces zero = scripted_none
scripted_spaces (suc n) = scripted_byte 32 (omega arith) (scripted_spaces n)

pub scripted_cat : (ws : List (List ℕ)) → Each Scripted ws → Scripted (cat ws)
scripted_cat [] h = scripted_none
scripted_cat (w ∷ ws) h = scripted_append h.0 (scripted_cat ws h.1)

-- the ranges of scalar values; those of allowed characters from 160 on
abbrev scalars : Class
scalars = (0 to 0xD7FF) ∷ (0xE000 to 0x10FFFF) ∷ []

abbrev near : Class
near = (0xA0 to 0xD7FF) ∷ (0xE000 to 0xFDCF) ∷ (0xFDF0 to 0xFFFD) ∷ []

abbrev far : Class
far = (0x10000 to 0x10FFFF) ∷ []

-- an allowed character is a scalar value
wide_scalar : (v : ℕ) → wide v ≡ true → scalar v ≡ true
wide_scalar v h = by (or_of (is near v) (and (is far v) (leb (v % 0x10000) 0xFFFD)) h)
  where
    by : (is near v ≡ true) ⊎ (and (is far v) (leb (v % 0x10000) 0xFFFD) ≡ true) → scalar v ≡ true
    by (inl x) = inside near scalars v refl x
    by (inr x) = inside far scalars v refl (and_of (is far v) (leb (v % 0x10000) 0xFFFD) x).0

pub character_scalar : (plain : Class) (v : ℕ) → character plain v ≡ true → scalar v ≡ true
character_scalar plain v h = by (leb v 127) refl h
  where
    by : (c : Bool) → leb v 127 ≡ c → pick c (is plain v) (wide v) ≡ true → scalar v ≡ true
    by true e k = low_scalar v (leb-true v 127 e)
    by false e k = wide_scalar v k
