-- The readers of hex pairs: inside `<..>` a space is followed by a pair; on a hex line it may also begin a line comment, so a look decides. Both are exact.
use Rattle.std.specs.Prelude.{◌≡◌, refl, List, [], ◌∷◌, ◌++◌, Bool, true, false, ℕ, suc, ◌+◌, ◌*◌}
use Rattle.std.proofs.Common.{ap, inl, arith}
use Rattle.notation.specs.Lang.{Lang, ◌>>◌, Alt, two, byte}
use Rattle.language.specs.Kind.{BYTES}
use Rattle.language.specs.Tree.{Decoded, unescaped, Tree}
use Rattle.language.specs.Characters.{Space}
use Rattle.language.specs.Strings.{lowhex, hexval, Pair, Pairs, InlineBytes}
use Rattle.exact.specs.Class.{pick, and, or, clash, is, only, nothing, and_of}
use Rattle.exact.specs.Out.{Reader, bind, ok, bad}
use Rattle.exact.specs.Lang.{None, bar, Exact, within_bar, within_same, weaken, ret_r, byte_r}
use Rattle.exact.specs.Comb.{seq_r, map_r, seq_exact, map_exact, alt_r, many_r}
use Rattle.exact.specs.Ll.{Shape, Ll, ret_ll, byte_ll, seq_ll, alt_ll, star_ll, relax, byte₁}
use Rattle.exact.specs.Block.{many_g, Clear, Looks, star_g_exact, lead, lead_near}
use Rattle.strings.specs.Spans.{solid, spanned_r, spanned_ll}

-- A PAIR, and a further one after a space or none
unfoldable pub pair_r : Reader ℕ
pair_r = seq_r (byte_r (is lowhex)) λ h. seq_r (byte_r (is lowhex)) λ l. ret_r (16 * hexval h + hexval l)

abbrev pub pair_s : Shape
pair_s = solid lowhex []

pub pair_ll : Ll pair_s Pair pair_r
unfolding pair_r
pair_ll = relax pair_s refl refl refl (seq_ll refl (byte_ll lowhex 48 refl) λ h. seq_ll refl (byte_ll lowhex 48 refl) λ l. ret_ll (16 * hexval h + hexval l))

abbrev pub Further : Lang ℕ
Further = Alt Pair (Space >> Pair)

unfoldable pub further_r : Reader ℕ
further_r = alt_r (is lowhex) pair_r (seq_r (byte_r (is (only 32))) λ _. pair_r)

abbrev pub further_s : Shape
further_s = solid (lowhex ++ only 32) []

pub further_ll : Ll further_s Further further_r
unfolding further_r
further_ll = relax further_s refl refl refl (alt_ll refl refl pair_ll (seq_ll refl (byte₁ 32) λ _. pair_ll))

-- INLINE BYTES: the first byte decides
unfoldable pub inside_r : Reader (List ℕ)
inside_r = seq_r pair_r λ p. seq_r (many_r (is (lowhex ++ only 32)) further_r) λ ps. ret_r (p ∷ ps)

abbrev pub inside_s : Shape
inside_s = solid lowhex (lowhex ++ only 32)

pub inside_ll : Ll inside_s Pairs inside_r
unfolding inside_r
inside_ll = relax inside_s refl refl refl (seq_ll refl pair_ll λ p. seq_ll refl (star_ll refl refl further_ll) λ ps. ret_ll (p ∷ ps))

unfoldable pub angled_r : Reader Decoded
angled_r = seq_r (byte_r (is (only 60))) λ _. seq_r (alt_r (is lowhex) inside_r (ret_r [])) λ bs. seq_r (byte_r (is (only 62))) λ _. ret_r (unescaped bs)

unfoldable pub inline_bytes_r : Reader Tree
inline_bytes_r = spanned_r BYTES angled_r

abbrev pub inline_bytes_s : Shape
inline_bytes_s = solid (only 60) []

pub inline_bytes_ll : Ll inline_bytes_s InlineBytes inline_bytes_r
unfolding inline_bytes_r angled_r
inline_bytes_ll =
    spanned_ll
    BYTES
    (only 60)
    []
    (relax inline_bytes_s refl refl refl (seq_ll refl (byte₁ 60) λ _. seq_ll refl (alt_ll refl refl inside_ll (ret_ll [])) λ bs. seq_ll refl (byte₁ 62) λ _. ret_ll (unescaped bs)))

-- PAIRS OF A HEX LINE: they go on with a hex digit, or a space and a hex digit
abbrev pub digit_next : List ℕ → Bool
digit_next [] = false
digit_next (b ∷ t) = is lowhex b

abbrev pub pairs_on : List ℕ → Bool
pairs_on [] = false
pairs_on (b ∷ t) = or (is lowhex b) (and (is (only 32) b) (digit_next t))

abbrev pub PairsOn : List ℕ → Type 0
PairsOn t = pairs_on t ≡ true

unfoldable pub pairs_r : Reader (List ℕ)
pairs_r = seq_r pair_r λ p. map_r (p ∷◌) (many_g pairs_on (lead 1) further_r)

pair_exact : Exact 1 Pair None pair_r
pair_exact = weaken 1 None (omega arith) (within_bar _ None nothing) pair_ll.exact

further_exact : Exact 1 Further None further_r
further_exact = weaken 1 None (omega arith) (within_bar _ None nothing) further_ll.exact

-- where they go on, nothing else does
look : (s : List ℕ) → pairs_on s ≡ true → Clear Further PairsOn s
look [] e = absurd (clash e refl)
look (b ∷ s) e = by (is lowhex b) refl e
  where
    spaced : (s : List ℕ) → is (only 32) b ≡ true → digit_next s ≡ true → pairs_on (b ∷ s) ≡ true → Clear Further PairsOn (b ∷ s)
    spaced [] x y z = absurd (clash y refl)
    spaced (c ∷ s) x y z =
        record {
          m = 1;
          fits = omega arith;
          taken = λ t. z;
          alive = λ K ne at.
              let n = pair_exact.some K ne (suc at) in
              record {
                more = n.more;
                value = n.value;
                word =
                    record {
                      value = n.word.value;
                      next = n.word.next;
                      rest = n.word.rest;
                      first = two (record { value = b; middle = suc at; rest = n.more; first = byte x; second = n.word.first });
                      others = n.word.others;
                    };
              };
        }

    by : (x : Bool) → is lowhex b ≡ x → or x (and (is (only 32) b) (digit_next s)) ≡ true → Clear Further PairsOn (b ∷ s)
    by true x y = record { m = 0; fits = omega arith; taken = λ t. rw x refl; alive = λ K ne at. further_exact.some K ne at }
    by false x y = let z = and_of (is (only 32) b) (digit_next s) y in spaced s z.0 z.1 e

-- where they do not, a further pair is refused after at most one space
pub further_fails : (at : ℕ) (s : List ℕ) → pairs_on s ≡ false → further_r at s ≡ bad (at + lead 1 s)
unfolding further_r pair_r
further_fails at [] e = ap bad (omega arith)
further_fails at (b ∷ s) e = by (is lowhex b) (is (only 32) b) s e
  where
    second : (s : List ℕ) → digit_next s ≡ false → pair_r (suc at) s ≡ bad (at + 1)
    second [] y = ap bad (omega arith)
    second (c ∷ s) y = rw y (ap bad (omega arith))

    by : (x y : Bool) (s : List ℕ) → or x (and y (digit_next s)) ≡ false
        → pick x (bind (pick x (ok b (suc at) s) (bad at)) (λ h. seq_r (byte_r (is lowhex)) λ l. ret_r (16 * hexval h + hexval l))) (bind (pick y (ok b (suc at) s) (bad at)) (λ _. pair_r))
        ≡ bad (at + pick y 1 0)
    by true y s h = absurd (clash refl h)
    by false true s h = second s h
    by false false s h = ap bad (omega arith)

looks : Looks Further None further_r PairsOn pairs_on (lead 1) (λ b. false) 0
looks =
    record {
      into = λ t x. absurd x;
      avoids = λ at s v at' t x y. y;
      keeps = λ at b s v at' t x e. clash e refl;
      look = λ s e. inl (look s e);
      fails = further_fails;
      near = lead_near 1;
      blank = λ at b t e. absurd (clash e refl);
    }

pub pairs_exact : Exact 1 Pairs (bar PairsOn) pairs_r
unfolding pairs_r
pairs_exact =
    weaken
    1
    (bar PairsOn)
    (omega arith)
    (within_same (bar PairsOn))
    (seq_exact pair_exact (λ p. map_exact (p ∷◌) (star_g_exact looks further_exact)) (λ p at s y at' t b g z. z))
