-- HOW LONG A STORED FORM IS: at least three bytes for each row, and the text (`form_least`), just so many where one field holds them (`form_plain`), and with all heads of parts no more than twice that (`form_most`). So one of few bytes has few rows and little
-- text. Assumes nothing.
use Rattle.std.specs.Prelude.{◌≡◌, refl, List, [], ℕ, suc, ◌+◌, ◌*◌, ◌≤◌, length}
use Rattle.std.proofs.Common.{sym, ap, ◌∙◌, arith, mul-add, suc-mul, mul-le-mul_right, length-append}
use Rattle.language.specs.Kind.{KEY, has_text, pick}
use Rattle.language.specs.Tree.{Decoded, Tree, leaf, node, Forest, more, size, sizes, text_of, texts_of}
use Rattle.language.specs.Answered.{deepest}
use Rattle.language.specs.Lent.{lent}
use Rattle.shaped.specs.Shaped.{Scalar, is_null, is_false, is_true, is_an_integer, is_float, is_string, is_bytes, Shaped, shaped_leaf, shaped_array, shaped_object, Elements, elements_none, elements_more, Pairs, pairs_none, pairs_more}
use Rattle.stored.specs.Form.{head, tag, content, forms, form, widest}
use Rattle.stored.specs.Parts.{heads, heads_short}

-- a scalar's content is its text
pub scalar_text_lem : {k : ℕ} {s : List ℕ} → Scalar k s → pick (has_text k) s [] ≡ s
scalar_text_lem is_null = refl
scalar_text_lem is_false = refl
scalar_text_lem is_true = refl
scalar_text_lem (is_an_integer x) = refl
scalar_text_lem (is_float x) = refl
scalar_text_lem (is_string x) = refl
scalar_text_lem (is_bytes x) = refl

pub scalar_content : (k a e : ℕ) (s : Decoded) → Scalar k s.bytes → content (leaf k a e s) ≡ s.bytes
unfolding content
scalar_content k a e s x = scalar_text_lem x

-- ---- WITHOUT PARTS: three bytes for each row, and the text
abbrev pub plain : Tree → ℕ
plain t = head * size t + length (text_of t)

abbrev pub plains : Forest → ℕ
plains ts = head * sizes ts + length (texts_of ts)

pub plains_more : (t : Tree) (ts : Forest) → plains (more t ts) ≡ plain t + plains ts
unfolding size text_of
plains_more t ts = omega (arith, length-append (text_of t) (texts_of ts))

pub key_plain : (a e : ℕ) (s : Decoded) → plain (leaf KEY a e s) ≡ head + length s.bytes
unfolding size text_of
key_plain a e s = omega arith

pub leaf_plain : {k : ℕ} (a e : ℕ) (s : Decoded) → Scalar k s.bytes → plain (leaf k a e s) ≡ head + length (content (leaf k a e s))
unfolding size text_of
leaf_plain {k} a e s x = let f = ap length (scalar_content k a e s x) in omega arith

-- ---- NO MORE THAN TWICE AS MANY: each level of containers adds a head for every 65,535 bytes, less than a byte for every 16,384
abbrev pub Most : ℕ → ℕ → ℕ → Type 0
Most k n b = 16384 * n ≤ 16384 * b + k * b

pub most_both : (k n m a b : ℕ) → Most k n a → Most k m b → Most k (n + m) (a + b)
most_both k n m a b h i = let e = mul-add k a b in omega arith

pub most_field : (k c b : ℕ) → k ≤ 40 → Most k c b → Most (suc k) (c + heads c) (head + b)
unfolding widest
most_field k c b l h =
    let e = suc-mul k (head + b) in
    let f = mul-add k head b in
    let g : k * b ≤ 40 * b = mul-le-mul_right b l in
    omega arith

pub most_more : (j k n b : ℕ) → j ≤ k → Most j n b → Most k n b
most_more j k n b l h = let g : j * b ≤ k * b = mul-le-mul_right b l in omega arith

pub most_none : (k : ℕ) → Most k 0 0
most_none k = omega arith
