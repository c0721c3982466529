-- STRINGS, KEYS AND BYTES as they are written are read back, with their texts. Assumes nothing.
use Rattle.std.specs.Prelude.{◌≡◌, refl, List, [], ◌∷◌, ◌++◌, Bool, true, false, ℕ, suc, ◌+◌, ◌/◌, ◌%◌, ◌≤◌, ◌<◌, length}
use Rattle.std.proofs.Common.{sym, ap₂, arith}
use Rattle.notation.specs.Class.{pick, is}
use Rattle.notation.specs.Lang.{Lang, Star, Alt, ◌>>◌}
use Rattle.exact.specs.Class.{clash, and_of, only_is}
use Rattle.language.specs.Kind.{STRING, BYTES, KEY}
use Rattle.language.specs.Tree.{Decoded, unescaped, together, leaf}
use Rattle.language.specs.Characters.{Space, Option}
use Rattle.language.specs.Strings.{keybyte, Quoted, Spanned, String, Key, Pair, Pairs, InlineBytes}
use Rattle.language.specs.House.{hexletter, shown, shown_text, quoted, keybytes, bareable, hex_pairs}
use Rattle.shaped.specs.Shaped.{Scripted, scripted_none, scripted_more, Octets, octets_none, octets_more}
use Rattle.house.specs.Same.{Leaf, leaf_of}
use Rattle.house.specs.Spells.{Reads, Spells, spelt_as, revalued, one_reads, two_reads, two_spells, star_none, star_more, ret_reads, seq_reads, last_reads}
use Rattle.house.specs.Spells.{here_then, byte_reads, byte_then}
use Rattle.house.specs.Each.{All, all_none, all_more, plus_each}
use Rattle.house.specs.Hexes.{hexletter_low, hexletter_value, scalar_small}
use Rattle.house.specs.Lead.{shown_first}
use Rattle.house.specs.Shown.{Inner, shown_reads}

-- a text with its span
pub spanned_reads : {A : Lang Decoded} {kind at : ℕ} {w : List ℕ} {s : Decoded} → Reads A at w s → Reads (Spanned kind A) at w (leaf kind at (at + length w) s)
spanned_reads r = here_then (last_reads r (here_then ret_reads))

pub spanned_spells : {A : Lang Decoded} {kind at : ℕ} {w s : List ℕ} → Spells A at w (λ d. d.bytes ≡ s) → Spells (Spanned kind A) at w (Leaf kind at (at + length w) s)
spanned_spells r = record { value = _; reads = spanned_reads r.reads; good = leaf_of r.good }

-- STRINGS: the characters between the quotes
shown_spells : {at : ℕ} {s : List ℕ} → Scripted s → Spells (Star Inner) at (shown_text s) (λ ps. (together ps).bytes ≡ s)
unfolding shown_text
shown_spells scripted_none = record { value = []; reads = star_none; good = refl }
shown_spells {at} (scripted_more {s = s} v e x) =
    let c = shown_reads {at = at} v e in
    let r = shown_spells {at = at + length (shown v)} x in
    spelt_as
    (sym (shown_first v s (scalar_small v e)))
    (record { value = c.value ∷ r.value; reads = star_more c.reads r.reads; good = ap₂ ◌++◌ c.good r.good })

pub quoted_spells : {at : ℕ} {s : List ℕ} → Scripted s → Spells Quoted at (quoted s) (λ d. d.bytes ≡ s)
quoted_spells {at} x =
    let r = shown_spells {at = suc at} x in
    record { value = _; reads = one_reads (byte_then (only_is 34) (seq_reads r.reads (byte_then (only_is 34) ret_reads))); good = r.good }

pub string_spells : {at : ℕ} {s : List ℕ} → Scripted s → Spells String at (quoted s) (Leaf STRING at (at + length (quoted s)) s)
string_spells x = spanned_spells (quoted_spells x)

-- KEYS: unspan, or quoted
key_bytes : (s : List ℕ) → keybytes s ≡ true → All (is keybyte) s
unfolding keybytes
key_bytes [] e = all_none
key_bytes (b ∷ s) e = let x = and_of (is keybyte b) (keybytes s) e in all_more x.0 (key_bytes s x.1)

unspan_bytes : (s : List ℕ) → bareable s ≡ true → (All (is keybyte) s) × (1 ≤ length s)
unspan_bytes [] e = absurd (clash e refl)
unspan_bytes (b ∷ s) e = (key_bytes (b ∷ s) e, omega arith)

abbrev pub key_text : List ℕ → List ℕ
key_text s = pick (bareable s) s (quoted s)

pub key_spells : {at : ℕ} (s : List ℕ) → Scripted s → Spells Key at (key_text s) (Leaf KEY at (at + length (key_text s)) s)
key_spells {at} s x = by (bareable s) refl
  where
    by : (c : Bool) → bareable s ≡ c → Spells Key at (pick c s (quoted s)) (Leaf KEY at (at + length (pick c s (quoted s))) s)
    by true e =
        let h = unspan_bytes s e in
        spanned_spells (record { value = unescaped s; reads = one_reads (last_reads (plus_each (λ at b i. byte_reads i) h.0 h.1) ret_reads); good = refl })
    by false e = spanned_spells (two_spells (quoted_spells x))

-- BYTES
pair_reads : {at b : ℕ} → b < 256 → Reads Pair at (hexletter (b / 16) ∷ hexletter (b % 16) ∷ []) b
pair_reads {b = b} h =
    let l = hexletter_value (b / 16) (omega arith) in
    let r = hexletter_value (b % 16) (omega arith) in
    revalued (omega (arith, l, r)) (byte_then (hexletter_low (b / 16) (omega arith)) (byte_then (hexletter_low (b % 16) (omega arith)) ret_reads))

pairs_star : {at : ℕ} {s : List ℕ} → Octets s → Reads (Star (Alt Pair (Space >> Pair))) at (hex_pairs s) s
unfolding hex_pairs
pairs_star octets_none = star_none
pairs_star {at = at} (octets_more {b = b} h x) = star_more (one_reads (pair_reads h)) (pairs_star {at = at + 2} x)

pairs_reads : {at : ℕ} {s : List ℕ} → Octets s → Reads (Option Pairs) at (hex_pairs s) s
unfolding hex_pairs
pairs_reads octets_none = two_reads ret_reads
pairs_reads (octets_more h x) = one_reads (seq_reads (pair_reads h) (last_reads (pairs_star x) ret_reads))

abbrev pub bytes_text : List ℕ → List ℕ
bytes_text s = 60 ∷ hex_pairs s ++ 62 ∷ []

pub bytes_reads : {at : ℕ} {s : List ℕ} → Octets s → Reads InlineBytes at (bytes_text s) (leaf BYTES at (at + length (bytes_text s)) (unescaped s))
bytes_reads x = spanned_reads (byte_then (only_is 60) (seq_reads (pairs_reads x) (byte_then (only_is 62) ret_reads)))
