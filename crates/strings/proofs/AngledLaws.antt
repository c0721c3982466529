-- Bytes in `<..>`, and their row: laws for each return.
use mathlib.Core.Path.{◌≡◌, refl, sym, ap, ◌∙◌}
use mathlib.Core.List.{List, []}
use mathlib.Core.Bool.{Bool, true, false}
use Prim.Native.Nat.{ℕ}
use native.Mathlib.Nat.{add-zero}
use native.Mathlib.Omega.{arith}
use lib.ListN.{drop}
use borrow.Author.Rules.{rules}
use Rattle.exact.specs.Class.{pick, is, only}
use Rattle.exact.specs.Out.{ok, bad, bind, Reader}
use Rattle.exact.specs.Lang.{ret_r, byte_r}
use Rattle.exact.specs.Lines.{soft_reached}
use Rattle.exact.specs.Comb.{seq_r, alt_r}
use Rattle.exact.specs.Block.{lead}
use Rattle.exact.specs.Place.{peek, peek_in, There, byte_there, none_there, there, alt_peek, byte_is, byte_not}
use Rattle.language.specs.Kind.{BYTES}
use Rattle.language.specs.Strings.{lowhex}
use Rattle.language.specs.Tree.{Decoded, unescaped}
use Rattle.rooms.specs.declared.Cursor.{Cursor}
use Rattle.rooms.specs.Contract.{Ans}
use Rattle.std.specs.declared.result.Result.TheVariants.{Err, Ok}
use Rattle.rooms.specs.Contract.{Far}
use Rattle.rooms.specs.Contract.{Takes, Ready, Answers}
use Rattle.rooms.specs.Laws.{take_next, take_byte, take_other}
use Rattle.strings.specs.Bytes.{inside_r, angled_r, inline_bytes_r, pairs_r}
use Rattle.strings.specs.Settled.{space_next, settled, inside_settled}
use Rattle.strings.specs.Contract.{Texts}
use Rattle.strings.specs.Inside.{Leafed}
use Rattle.strings.specs.Hexes.{Paired, PairsAt, Closed}
use Rattle.strings.proofs.TextLaws.{text_refused, front_not, front_ready, front_read}
use Rattle.strings.proofs.LeafLaws.{text_close, spanned_bad, spanned_read}
use Rattle.strings.proofs.HexLaws.{low_is, low_none, lead_peek}

-- ---- `>`

module _ (doc : List ℕ) (n : Cursor) (far : ℕ) (t : Ans) (h : Takes doc n 62 t) where
  pub closed_yes : (m : Cursor) → t ≡ Ok m → Closed doc n far (Ok m)
  unfolding Closed
  closed_yes m e = (take_next doc n 62 t h m e, take_byte doc n 62 t h m e)

  pub closed_no : (p : ℕ) → t ≡ Err p → Closed doc n far (Err far)
  unfolding Closed
  closed_no p e = (refl, take_other doc n 62 t h p e)

pub ruleset closing = (closed_yes, closed_no, rules)

space_peek : (doc : List ℕ) (at : ℕ) → space_next (drop at doc) ≡ is (only 32) (peek doc at)
space_peek doc at = by (there doc at)
  where
    by : There doc at → space_next (drop at doc) ≡ is (only 32) (peek doc at)
    by (byte_there p) = ap space_next p
    by (none_there p q) = ap space_next p ∙ sym (ap (is (only 32)) q)

abbrev close_r : List ℕ → Reader Decoded
close_r bs = seq_r (byte_r (is (only 62))) λ _. ret_r (unescaped bs)

-- ---- behind `<`

abbrev inner_r : Reader Decoded
inner_r = seq_r (alt_r (is lowhex) inside_r (ret_r [])) close_r

module _ (doc : List ℕ) (n : Cursor) (b : ℕ) (d : Bool) (look : b ≡ peek doc n.at) (a : d ≡ is lowhex b) where
  abbrev Inner : Ans → List ℕ → List ℕ → Type 0
  Inner r T T' = Texts doc n (inner_r n.at (drop n.at doc)) r T T'

  opened : inner_r n.at (drop n.at doc)
      ≡ bind (pick (is lowhex (peek doc n.at)) (inside_r n.at (drop n.at doc)) (ok [] n.at (drop n.at doc))) close_r
  opened = rw (alt_peek doc n.at lowhex refl inside_r (ret_r [])) refl

  -- none
  pub inner_empty : (T : List ℕ) (r : Ans) → d ≡ false → Closed doc n n.at r → Inner r T T
  unfolding Closed Texts
  inner_empty T (Ok m) z h =
      let i = peek_in doc n.at 62 h.1 (omega arith) in
      rw h.0
      (record {
        value = unescaped [];
        is = opened ∙ rw (low_none doc n.at b d look a z, byte_is doc n.at 62 62 (omega arith) h.1 refl) refl;
        spelt = record { ahead = omega arith; inside = omega arith; row = refl; end = sym (add-zero n.text); few = omega arith; scant = omega arith; room = refl };
      })
  inner_empty T (Err p) z h = opened ∙ rw (low_none doc n.at b d look a z, byte_not doc n.at 62 (peek doc n.at) (omega arith) refl h.1, h.0) refl

  -- pairs
  module _ (some : d ≡ true) (f : Far) (T T' : List ℕ) (k : PairsAt doc n f T T') where
    inner : inner_r n.at (drop n.at doc) ≡ bind (settled (pairs_r n.at (drop n.at doc))) close_r
    inner = opened ∙ rw (low_is doc n.at b d look a some, inside_settled n.at (drop n.at doc)) refl

    pub inner_bad : (p : ℕ) → f ≡ Err p → Inner (Err p) T T'
    unfolding PairsAt
    inner_bad p x =
        let h : pairs_r n.at (drop n.at doc) ≡ bad p = rw x at k in
        text_refused doc n _ T T' p (inner ∙ ap (λ o. bind (settled o) close_r) h)

    module _ (m : Cursor) (far : ℕ) (x : f ≡ Ok (m, far)) where
      paired : Paired doc n m far T T'
      unfolding PairsAt
      paired = rw x at k

      ended : inner_r n.at (drop n.at doc)
          ≡ bind (pick (is (only 32) (peek doc m.at)) (bad far) (ok paired.texted.value m.at (drop m.at doc))) close_r
      ended =
          let t = paired.texted in
          let l = t.spelt.ahead in
          inner
          ∙ (ap (λ o. bind (settled o) close_r) (t.is ∙ sym (soft_reached far t.value m.at (drop m.at doc) (omega (arith, paired.far_is))))
          ∙ rw (space_peek doc m.at) refl)

      pub inner_pairs : (r : Ans) → Closed doc m far r → Inner r T T'
      unfolding Closed Texts
      inner_pairs (Ok i) h =
          let t = paired.texted in
          let s = t.spelt in
          let z = peek_in doc m.at 62 h.1 (omega arith) in
          let y : is (only 32) (peek doc m.at) ≡ false = ap (is (only 32)) (sym h.1) in
          rw h.0
          (record {
            value = unescaped t.value;
            is = ended ∙ rw (y, byte_is doc m.at 62 62 (omega arith) h.1 refl) refl;
            spelt =
                record {
                  ahead = omega (arith, s.ahead);
                  inside = omega arith;
                  row = s.row;
                  end = s.end;
                  few = omega (arith, s.few);
                  scant = omega (arith, s.scant);
                  room = s.room;
                };
          })
      inner_pairs (Err p) h = by (is (only 32) (peek doc m.at)) refl
        where
          by : (x : Bool) → is (only 32) (peek doc m.at) ≡ x → inner_r n.at (drop n.at doc) ≡ bad p
          by true y = ended ∙ rw y (ap bad (sym h.0))
          by false y =
              let z : lead 1 (drop m.at doc) ≡ 0 = lead_peek doc m.at ∙ rw y refl in
              let q : m.at ≡ p = omega (arith, paired.far_is, h.0) in
              ended ∙ rw (y, byte_not doc m.at 62 (peek doc m.at) (omega arith) refl h.1) (ap bad q)

-- ---- `<`

module _ (doc : List ℕ) (c : Cursor) (t : Ans) (h : Takes doc c 60 t) where
  abbrev Angled : Ans → List ℕ → List ℕ → Type 0
  Angled a T T' = Texts doc c (angled_r c.at (drop c.at doc)) a T T'

  pub angle_not : (T : List ℕ) (p : ℕ) → t ≡ Err p → Angled (Err p) T T
  unfolding angled_r
  angle_not T p e = front_not doc c 60 (omega arith) t h inner_r T p e

  module _ (n : Cursor) (e : t ≡ Ok n) where
    pub angle_ready : Ready doc c → Ready doc n
    angle_ready ready = front_ready doc c 60 (omega arith) t h n e ready

    pub angle_on : (a : Ans) (T T' : List ℕ) → Texts doc n (inner_r n.at (drop n.at doc)) a T T' → Angled a T T'
    unfolding angled_r
    angle_on a T T' x = front_read doc c 60 (omega arith) t h n e inner_r a T T' x

pub ruleset angles = (angle_not, angle_ready, angle_on, inner_empty, inner_bad, inner_pairs, rules)

-- ---- the row

module _ (doc : List ℕ) (c : Cursor) (p : ℕ) (a : Ans) (T T' : List ℕ) (h : Texts doc c (angled_r c.at (drop c.at doc)) a T T') where
  pub bytes_not : (R R' : List ℕ) (q : ℕ) → a ≡ Err q → Answers doc c p (inline_bytes_r c.at (drop c.at doc)) (Err q) R R' T T'
  unfolding inline_bytes_r
  bytes_not R R' q e = spanned_bad BYTES angled_r doc c p a T T' h R R' q e

  pub bytes_taken : (R R' : List ℕ) (n m : Cursor) → Ready doc c → a ≡ Ok n → Leafed c n p BYTES m R R' → Answers doc c p (inline_bytes_r c.at (drop c.at doc)) (Ok m) R R' T T'
  unfolding inline_bytes_r
  bytes_taken R R' n m ready e f = spanned_read BYTES angled_r doc c p a T T' h R R' n m ready (omega arith) e f

pub ruleset bytes = (text_close, bytes_not, bytes_taken, rules)
