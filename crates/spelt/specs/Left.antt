-- WHAT IS LEFT OF A KEY'S TEXT at a place (`Left`), in quotes or bare: a byte that stands as it is and the rest, a piece and the rest, or nothing. Assumes nothing.
use Rattle.std.proofs.Math.Path.{◌≡◌, refl, sym, ap}
use Rattle.std.proofs.Common.{◌∙◌}
use mathlib.Core.List.{List, [], ◌∷◌, ◌++◌}
use Rattle.std.specs.Prelude.{Bool}
use Rattle.std.proofs.Math.Bool.{true, false}
use Prim.Native.Nat.{ℕ, suc, ◌+◌, ◌<◌}
use Rattle.std.proofs.Math.Numerals.{add-one}
use native.Mathlib.Omega.{arith}
use Rattle.std.proofs.Math.ListN.{take, drop}
use Rattle.language.specs.Characters.{ascii}
use Rattle.language.specs.Strings.{keybyte, lettered, stands_for}
use Rattle.language.specs.Kind.{KEY}
use Rattle.language.specs.Tree.{Decoded, unescaped, escaped, ◌then◌, leaf, text_of}
use Rattle.exact.specs.Class.{clash, is, only, sub, apart, apart_no, only_is, only_no}
use Rattle.exact.specs.Out.{Out, ok, soft, bad, bind, fmap, Tame, Firm}
use Rattle.exact.specs.Lang.{ret_r, byte_r}
use Rattle.exact.specs.Comb.{map_r}
use Rattle.exact.specs.Place.{peek, There, byte_there, none_there, there, run, many_run, peek_cons, byte_peek, alt_peek, alt_not}
use Rattle.exact.specs.Run.{run_firm}
use Rattle.utf8.specs.Utf8.{char_r, next, full, live, start}
use Rattle.characters.specs.Plains.{Quote, double, single, plain_of, other}
use Rattle.strings.specs.Spans.{spanned_r}
use Rattle.strings.specs.Plain.{char_plain}
use Rattle.strings.specs.Quoted.{letter_r, coded_r, behind_r, escape_r, piece_s, between_r, quoted_r, singled, itself_r, unsingle, unescaped_r, singled_r, single_escape_r, escape_ll, single_escape_ll}
use Rattle.strings.specs.Keys.{bare_r, name_r, key_r}
use Rattle.strings.specs.Rest.{rest_r, rest_at, rest_close}
use Rattle.strings.specs.Inside.{escapes_r, left_r, special_r}
use Rattle.named.specs.Lie.{KeyAt}
use Rattle.spelt.specs.Texts.{text_in, spelled, key_text}

pub data Left (doc : List ℕ) (q at : ℕ) (s : List ℕ) : Type 0 where
  left_bare : q ≡ 0 → s ≡ take (run keybyte (drop at doc)) (drop at doc) → Left doc q at s
  left_quoted : Quote q → (v : Decoded) (m : ℕ) (u : List ℕ) → left_r q at (drop at doc) ≡ ok v m u → s ≡ v.bytes → Left doc q at s

pub quote_not : {q : ℕ} → Quote q → q ≡ 0 → ⊥
quote_not double e = omega arith
quote_not single e = omega arith

pub left_quote : (doc : List ℕ) (q at : ℕ) (s : List ℕ) → Left doc q at s → (q ≡ 0 → ⊥) → Quote q
left_quote doc q at s (left_bare e h) n = absurd (n e)
left_quote doc q at s (left_quoted k v m u e h) n = k

-- w and the rest, which is left from n on
pub record After (doc : List ℕ) (q n : ℕ) (w s : List ℕ) : Type 0 where
  pub rest : List ℕ
  pub is : s ≡ w ++ rest
  pub left : Left doc q n rest

-- ---- a bare key

module _ (doc : List ℕ) (q at : ℕ) (z : q ≡ 0) (s : List ℕ) (l : Left doc q at s) where
  bare : s ≡ take (run keybyte (drop at doc)) (drop at doc)
  bare = go l
    where
      go : Left doc q at s → s ≡ take (run keybyte (drop at doc)) (drop at doc)
      go (left_bare e h) = h
      go (left_quoted k v m u e h) = absurd (quote_not k z)

  pub key_more : is keybyte (peek doc at) ≡ true → After doc q (at + 1) (peek doc at ∷ []) s
  unfolding run
  key_more e = go (there doc at)
    where
      go : There doc at → After doc q (at + 1) (peek doc at ∷ []) s
      go (byte_there h) = record { rest = take (run keybyte (drop (suc at) doc)) (drop (suc at) doc); is = bare ∙ rw (h, e) refl; left = left_bare z (rw add-one refl) }
      go (none_there h k) = let y : is keybyte 256 ≡ true = rw k at e in absurd (clash y refl)

  pub key_over : is keybyte (peek doc at) ≡ false → s ≡ []
  unfolding run
  key_over e = go (there doc at)
    where
      go : There doc at → s ≡ []
      go (byte_there h) = bare ∙ rw (h, e) refl
      go (none_there h k) = bare ∙ rw h refl

-- ---- in quotes

record Sides (q : ℕ) : Type 0 where
  low : sub (plain_of q) ascii ≡ true
  dark : apart (plain_of q) (only 92) ≡ true
  shut : apart (only q) (piece_s (plain_of q)).first ≡ true
  no_quote : is (plain_of q) q ≡ false
  small : q < 256
  tame : Tame 1 (escapes_r q)

sides : {q : ℕ} → Quote q → Sides q
sides double = record { low = refl; dark = refl; shut = refl; no_quote = refl; small = omega arith; tame = escape_ll.exact.moves }
sides single = record { low = refl; dark = refl; shut = refl; no_quote = refl; small = omega arith; tame = single_escape_ll.exact.moves }

-- what is read in front, of what is read
record Front (d : Decoded) (o : Out Decoded) (v : Decoded) (m : ℕ) (u : List ℕ) : Type 0 where
  behind : Decoded
  is : o ≡ ok behind m u
  bytes : v.bytes ≡ d.bytes ++ behind.bytes

front : (d : Decoded) (o : Out Decoded) (v : Decoded) (m : ℕ) (u : List ℕ) → fmap (d then◌) o ≡ ok v m u → Front d o v m u
front d (ok w n t) v m u e =
    let a : d then w ≡ v = cc in
    let b : n ≡ m = cc in
    let c : t ≡ u = cc in
    record { behind = w; is = rw (b, c) refl; bytes = ap (λ (x : Decoded). x.bytes) (sym a) }
front d (soft p w n t) v m u e = let z : ◌≡◌ {A = ℕ} 0 1 = cc in absurd (omega arith)
front d (bad p) v m u e = let z : ◌≡◌ {A = ℕ} 0 1 = cc in absurd (omega arith)

module _ (doc : List ℕ) (q at : ℕ) (k : Quote q) (s : List ℕ) (l : Left doc q at s) where
  record Reading : Type 0 where
    value : Decoded
    end : ℕ
    rest : List ℕ
    is : left_r q at (drop at doc) ≡ ok value end rest
    bytes : s ≡ value.bytes

  reading : Reading
  reading = go l
    where
      go : Left doc q at s → Reading
      go (left_bare e h) = absurd (quote_not k e)
      go (left_quoted k v m u e h) = record { value = v; end = m; rest = u; is = e; bytes = h }

  piece_at : (peek doc at ≡ q → ⊥) → left_r q at (drop at doc) ≡ bind (special_r q at (drop at doc)) (λ v a t. fmap (v then◌) (left_r q a t))
  piece_at n = rest_at q (escapes_r q) (plain_of q) (sides k).tame doc at n

  pub piece_more : (peek doc at ≡ q → ⊥) → (d : Decoded) (n : ℕ) → special_r q at (drop at doc) ≡ ok d n (drop n doc) → After doc q n d.bytes s
  piece_more o d n e =
      let r = reading in
      let h : fmap (d then◌) (left_r q n (drop n doc)) ≡ ok r.value r.end r.rest =
      sym (piece_at o ∙ ap (λ (x : Out Decoded). bind x (λ v a t. fmap (v then◌) (left_r q a t))) e) ∙ r.is in
      let f = front d (left_r q n (drop n doc)) r.value r.end r.rest h in
      record { rest = f.behind.bytes; is = r.bytes ∙ f.bytes; left = left_quoted k f.behind r.end r.rest f.is refl }

  pub piece_none : (peek doc at ≡ q → ⊥) → (p : ℕ) → special_r q at (drop at doc) ≡ bad p → ⊥
  piece_none o p e =
      let r = reading in
      let h : bad p ≡ ok r.value r.end r.rest = sym (piece_at o ∙ ap (λ (x : Out Decoded). bind x (λ v a t. fmap (v then◌) (left_r q a t))) e) ∙ r.is in
      let z : ◌≡◌ {A = ℕ} 0 1 = cc in
      omega arith

  pub plain_other : is (plain_of q) (peek doc at) ≡ true → peek doc at ≡ q → ⊥
  plain_other e h = let y : is (plain_of q) q ≡ true = rw h at e in clash y (sides k).no_quote

  pub plain_more : is (plain_of q) (peek doc at) ≡ true → After doc q (at + 1) (peek doc at ∷ []) s
  plain_more e = go (there doc at)
    where
      go : There doc at → After doc q (at + 1) (peek doc at ∷ []) s
      go (byte_there h) =
          let n : peek doc at ≡ 92 → ⊥ = λ f. clash (rw f (only_is 92)) (apart_no (plain_of q) (only 92) (peek doc at) (sides k).dark e) in
          let z : special_r q at (drop at doc) ≡ ok (unescaped (peek doc at ∷ [])) (at + 1) (drop (at + 1) doc) =
          alt_not doc at 92 (peek doc at) (omega arith) refl (escapes_r q) (map_r unescaped (char_r (plain_of q))) n
          ∙ (ap (λ o. bind o (λ c. ret_r (unescaped c))) (ap (char_r (plain_of q) at) h ∙ char_plain (plain_of q) (sides k).low (peek doc at) e at (drop (suc at) doc)) ∙ rw add-one refl) in
          piece_more (plain_other e) (unescaped (peek doc at ∷ [])) (at + 1) z
      go (none_there h z) = absurd (by k (rw z at e))
        where
          by : {q : ℕ} → Quote q → is (plain_of q) 256 ≡ true → ⊥
          by double y = clash y refl
          by single y = clash y refl

  pub quote_over : peek doc at ≡ q → s ≡ []
  quote_over e =
      let r = reading in
      let h = rest_close q (escapes_r q) (plain_of q) (sides k).tame (sides k).shut (sides k).small doc at (sym e) in
      let z : unescaped [] ≡ r.value = cc in
      r.bytes ∙ ap (λ (x : Decoded). x.bytes) (sym z)

  -- the document is not over
  pub quoted_inside : peek doc at ≡ 256 → ⊥
  quoted_inside e = go (there doc at)
    where
      go : There doc at → ⊥
      go (byte_there h) = piece_none (λ f. off k (sym f ∙ e)) at (none k)
        where
          off : {q : ℕ} → Quote q → q ≡ 256 → ⊥
          off double y = omega arith
          off single y = omega arith

          none : {q : ℕ} → Quote q → special_r q at (drop at doc) ≡ bad at
          none double = rw (h, e) refl
          none single = rw (h, e) refl
      go (none_there h z) = piece_none (λ f. off k (sym f ∙ e)) at (none k)
        where
          off : {q : ℕ} → Quote q → q ≡ 256 → ⊥
          off double y = omega arith
          off single y = omega arith

          none : {q : ℕ} → Quote q → special_r q at (drop at doc) ≡ bad at
          none double = rw h refl
          none single = rw h refl

-- ---- a backslash in double quotes

module _ (doc : List ℕ) (at : ℕ) (h : peek doc at ≡ 92) where
  abbrev behind : Out Decoded
  behind = behind_r (at + 1) (drop (at + 1) doc)

  escape_is : special_r 34 at (drop at doc) ≡ behind
  unfolding escape_r
  escape_is =
      let p : drop at doc ≡ 92 ∷ drop (suc at) doc = peek_cons doc at 92 (sym h) (omega arith) in
      let f : special_r 34 at (drop at doc) ≡ behind_r (suc at) (drop (suc at) doc) = rw p refl in
      f ∙ ap (λ (j : ℕ). behind_r j (drop j doc)) (sym (add-one at))

  -- .. before a letter
  pub letter_is : is lettered (peek doc (at + 1)) ≡ true → special_r 34 at (drop at doc) ≡ ok (escaped (stands_for (peek doc (at + 1)) ∷ [])) (at + 2) (drop (at + 2) doc)
  letter_is y =
      let a : behind ≡ letter_r (at + 1) (drop (at + 1) doc) = alt_peek doc (at + 1) lettered refl letter_r coded_r ∙ rw y refl in
      let b : byte_r (is lettered) (at + 1) (drop (at + 1) doc) ≡ ok (peek doc (at + 1)) (suc (at + 1)) (drop (suc (at + 1)) doc) = byte_peek doc (at + 1) lettered refl ∙ rw y refl in
      let c : letter_r (at + 1) (drop (at + 1) doc) ≡ ok (escaped (stands_for (peek doc (at + 1)) ∷ [])) (suc (at + 1)) (drop (suc (at + 1)) doc) =
      ap (λ (o : Out ℕ). bind o (λ b. ret_r (escaped (stands_for b ∷ [])))) b in
      let q : suc (at + 1) ≡ at + 2 = omega arith in
      escape_is ∙ (a ∙ (rw q at c))

  -- .. before none
  pub coded_is : is lettered (peek doc (at + 1)) ≡ false → special_r 34 at (drop at doc) ≡ coded_r (at + 1) (drop (at + 1) doc)
  coded_is y = escape_is ∙ (alt_peek doc (at + 1) lettered refl letter_r coded_r ∙ rw y refl)

-- ---- a backslash in single quotes

firm_soft : {X : Type 0} {p : ℕ} {v : X} {a : ℕ} {t : List ℕ} → Firm (soft p v a t) → ⊥
firm_soft x = elim x [ ]

module _ (doc : List ℕ) (at : ℕ) (s : List ℕ) (l : Left doc 39 at s) (h : peek doc at ≡ 92) where
  here : drop at doc ≡ 92 ∷ drop (suc at) doc
  here = peek_cons doc at 92 (sym h) (omega arith)

  not_quote : peek doc at ≡ 39 → ⊥
  not_quote e = omega (arith, h)

  -- .. before a quote or a backslash
  pub single_escape : (b : ℕ) → b ≡ peek doc (at + 1) → is singled b ≡ true → b < 256 → After doc 39 (at + 2) (b ∷ []) s
  unfolding single_escape_r
  single_escape b e y m =
      let p : drop (suc at) doc ≡ b ∷ drop (suc (suc at)) doc = peek_cons doc (suc at) b (e ∙ ap (peek doc) (add-one at)) m in
      let z : special_r 39 at (drop at doc) ≡ ok (escaped (b ∷ [])) (suc (suc at)) (drop (suc (suc at)) doc) = rw (here, p, y) refl in
      let q : suc (suc at) ≡ at + 2 = omega arith in
      piece_more doc 39 at single s l not_quote (escaped (b ∷ [])) (at + 2) (rw q at z)

  -- .. before another character: it stays
  pub single_kept : (b : ℕ) → b ≡ peek doc (at + 1) → (b ≡ 39 → ⊥) → (b ≡ 92 → ⊥) → After doc 39 (at + 1) (92 ∷ []) s
  unfolding single_escape_r
  single_kept b e n m = go (char_r unsingle (at + 1) (drop (at + 1) doc)) refl (run_firm (next unsingle) full live start (at + 1) (drop (at + 1) doc))
    where
      r : Reading doc 39 at single s l
      r = reading doc 39 at single s l

      x : special_r 39 at (drop at doc) ≡ unescaped_r (at + 1) (drop (at + 1) doc)
      x =
          let f : special_r 39 at (drop at doc) ≡ singled_r (suc at) (drop (suc at) doc) = rw here refl in
          let y : is singled b ≡ false = rw (other 39 b n, other 92 b m) refl in
          let g : is singled (peek doc (at + 1)) ≡ false = rw e at y in
          f ∙ (ap (λ (j : ℕ). singled_r j (drop j doc)) (sym (add-one at)) ∙ (alt_peek doc (at + 1) singled refl itself_r unescaped_r ∙ rw g refl))

      first : bind (unescaped_r (at + 1) (drop (at + 1) doc)) (λ v a t. fmap (v then◌) (left_r 39 a t)) ≡ ok r.value r.end r.rest
      first = sym (piece_at doc 39 at single s l not_quote ∙ ap (λ (o : Out Decoded). bind o (λ v a t. fmap (v then◌) (left_r 39 a t))) x) ∙ r.is

      second : left_r 39 (at + 1) (drop (at + 1) doc) ≡ bind (map_r unescaped (char_r unsingle) (at + 1) (drop (at + 1) doc)) (λ v a t. fmap (v then◌) (left_r 39 a t))
      second =
          rest_at 39 (escapes_r 39) (plain_of 39) (sides single).tame doc (at + 1) (λ f. n (e ∙ f))
          ∙ ap (λ (o : Out Decoded). bind o (λ v a t. fmap (v then◌) (left_r 39 a t))) (alt_not doc (at + 1) 92 (peek doc (at + 1)) (omega arith) refl (escapes_r 39) (map_r unescaped (char_r (plain_of 39))) (λ f. m (e ∙ f)))

      go : (o : Out (List ℕ)) → char_r unsingle (at + 1) (drop (at + 1) doc) ≡ o → Firm o → After doc 39 (at + 1) (92 ∷ []) s
      go (ok c j t) y k =
          let u : fmap (unescaped (92 ∷ c) then◌) (left_r 39 j t) ≡ ok r.value r.end r.rest = rw y at first in
          let v : left_r 39 (at + 1) (drop (at + 1) doc) ≡ fmap (unescaped c then◌) (left_r 39 j t) = second ∙ ap (λ (o : Out (List ℕ)). bind (bind o (λ c. ret_r (unescaped c))) (λ v a t. fmap (v then◌) (left_r 39 a t))) y in
          let f = front (unescaped (92 ∷ c)) (left_r 39 j t) r.value r.end r.rest u in
          record {
            rest = c ++ f.behind.bytes;
            is = r.bytes ∙ f.bytes;
            left = left_quoted single (unescaped c then f.behind) r.end r.rest (v ∙ ap (fmap (unescaped c then◌)) f.is) refl;
          }
      go (soft p c j t) y k = absurd (firm_soft k)
      go (bad p) y k = let u : bad p ≡ ok r.value r.end r.rest = rw y at first in let z : ◌≡◌ {A = ℕ} 0 1 = cc in absurd (omega arith)

-- ---- the whole text of the key at a place

read_bare : (a : ℕ) (s : List ℕ) → (run keybyte s ≡ 0 → ⊥) → text_in (key_r a s) ≡ take (run keybyte s) s
unfolding key_r spanned_r name_r bare_r run text_of
read_bare a [] n = absurd (n refl)
read_bare a (b ∷ s) n = by (is keybyte b) refl
  where
    by : (x : Bool) → is keybyte b ≡ x → text_in (key_r a (b ∷ s)) ≡ take (run keybyte (b ∷ s)) (b ∷ s)
    by true e = rw (e, many_run keybyte (suc a) s) refl
    by false e = absurd (n (rw e refl))

module _ (doc : List ℕ) (at m : ℕ) (s : List ℕ) (k : KeyAt doc at s m) where
  -- .. by what its name is read as
  record Name (o : Out Decoded) : Type 0 where
    value : Decoded
    end : ℕ
    rest : List ℕ
    is : o ≡ ok value end rest
    bytes : s ≡ value.bytes

  name : (o : Out Decoded) → name_r at (drop at doc) ≡ o → Name o
  unfolding key_r spanned_r
  name o e = go o (sym k.is ∙ ap (λ (x : Out Decoded). bind x (λ w c. ok (leaf KEY at c w) c)) e)
    where
      go : (o : Out Decoded) → ok (leaf KEY at m (record { bytes = s; escapes = k.escapes })) m (drop m doc) ≡ bind o (λ w c. ok (leaf KEY at c w) c) → Name o
      go (ok v n u) f = let z : record { bytes = s; escapes = k.escapes } ≡ v = cc in record { value = v; end = n; rest = u; is = refl; bytes = ap (λ (x : Decoded). x.bytes) z }
      go (soft p v n u) f = let z : ◌≡◌ {A = ℕ} 0 1 = cc in absurd (omega arith)
      go (bad p) f = let z : ◌≡◌ {A = ℕ} 0 1 = cc in absurd (omega arith)

  no_name : (p : ℕ) → name_r at (drop at doc) ≡ bad p → ⊥
  no_name p e = let x = name (bad p) e in let y = x.is in let z : ◌≡◌ {A = ℕ} 0 1 = cc in omega arith

  quoted : (q : ℕ) → Quote q → name_r at (drop at doc) ≡ left_r q (at + 1) (drop (at + 1) doc) → Left doc q (at + 1) s
  quoted q h e = let x = name (left_r q (at + 1) (drop (at + 1) doc)) e in left_quoted h x.value x.end x.rest x.is x.bytes

  module _ (b : ℕ) (h : b ≡ peek doc at) where
    pub whole_double : b ≡ 34 → Left doc 34 (at + 1) s
    unfolding name_r quoted_r between_r rest_r
    whole_double e = let p = peek_cons doc at 34 (sym e ∙ h) (omega arith) in let f : name_r at (drop at doc) ≡ left_r 34 (suc at) (drop (suc at) doc) = rw p refl in quoted 34 double (f ∙ ap (λ (n : ℕ). left_r 34 n (drop n doc)) (sym (add-one at)))

    pub whole_single : b ≡ 39 → Left doc 39 (at + 1) s
    unfolding name_r quoted_r between_r rest_r
    whole_single e = let p = peek_cons doc at 39 (sym e ∙ h) (omega arith) in let f : name_r at (drop at doc) ≡ left_r 39 (suc at) (drop (suc at) doc) = rw p refl in quoted 39 single (f ∙ ap (λ (n : ℕ). left_r 39 n (drop n doc)) (sym (add-one at)))

    pub whole_bare : (b ≡ 34 → ⊥) → (b ≡ 39 → ⊥) → Left doc 0 at s
    unfolding name_r quoted_r between_r spelled run
    whole_bare n o = go (there doc at)
      where
        by : drop at doc ≡ peek doc at ∷ drop (suc at) doc → (x : Bool) → is keybyte (peek doc at) ≡ x → Left doc 0 at s
        by d true e =
            let z : run keybyte (drop at doc) ≡ 0 → ⊥ = λ f. let g : suc (run keybyte (drop (suc at) doc)) ≡ 0 = sym (rw (d, e) refl) ∙ f in omega arith in
            left_bare refl (sym (key_text doc at m s k) ∙ read_bare at (drop at doc) z)
        by d false e = absurd (no_name at (rw (d, e, only_no 34 (peek doc at) (λ f. n (h ∙ f)), only_no 39 (peek doc at) (λ f. o (h ∙ f))) refl))

        go : There doc at → Left doc 0 at s
        go (byte_there d) = by d (is keybyte (peek doc at)) refl
        go (none_there d z) = absurd (no_name at (rw d refl))
