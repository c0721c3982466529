-- What stands behind a key and its colon, and a property as a whole: what the calls on the way say of their readers. Assumes nothing.
use mathlib.Core.Path.{◌≡◌, refl, sym, ap, ◌∙◌}
use mathlib.Core.List.{List, [], ◌∷◌}
use mathlib.Core.Bool.{true, false}
use Prim.Native.Nat.{ℕ, suc, ◌+◌, ◌≤◌}
use native.Mathlib.Numerals.{add-one}
use native.Mathlib.Omega.{arith}
use lib.ListN.{length, drop}
use borrow.Author.Rules.{rules}
use Rattle.language.specs.Tree.{Tree, field, sizes}
use Rattle.exact.specs.Class.{is, only}
use Rattle.exact.specs.Out.{Out, Reader, Firm, bind, fmap, bad, f_ok, f_bad}
use Rattle.exact.specs.Answers.{map_fmap}
use Rattle.exact.specs.Lang.{ret_r, byte_r}
use Rattle.exact.specs.Comb.{seq_r, map_r, alt_r}
use Rattle.exact.specs.Place.{peek, peek_in, peek_cons, byte_is, byte_not, alt_is, alt_not}
use Rattle.rooms.specs.Told.{spot, tally}
use Rattle.rooms.specs.declared.Cursor.{Cursor}
use Rattle.rooms.specs.Contract.{Ans}
use Rattle.std.specs.declared.result.Result.TheVariants.{Err, Ok}
use Rattle.rooms.specs.Contract.{Block}
use Rattle.rooms.specs.Contract.{onward, Takes, Ready, Taken, Answers, Blocks}
use Rattle.rooms.specs.Laws
use Rattle.characters.specs.Reads.{Skip}
use Rattle.characters.specs.Reads.{Ends, Skips}
use Rattle.characters.specs.Comments.{comment_r, line_comment_r, comment_ll}
use Rattle.strings.specs.Keys.{key_r}
use Rattle.inline.specs.Written.{Written, written_one, written_append}
use Rattle.blocks.specs.Rest.{rest_r, below_r}
use Rattle.blocks.specs.Property.{on_r, property_r}
use Rattle.blocks.specs.Nested.{nested_r}
use Rattle.judge.specs.Members.{member_r}
use Rattle.judge.specs.Contract.{feed_r, ends_r, Gap, one_space, no_space, two_spaces, Stands, Members}
use Rattle.judge.proofs.Outs.{fmap_reached}
use Rattle.judge.proofs.Spans.{key_begins}

-- ---- the readers, by the spaces behind the colon

module _ (v n : Reader Tree) (doc : List ℕ) (at : ℕ) where
  pub rest_on : 32 ≡ peek doc at → (peek doc (at + 1) ≡ 32 → ⊥) → rest_r v n at (drop at doc) ≡ v (at + 1) (drop (at + 1) doc)
  unfolding rest_r
  rest_on e f =
      alt_is doc at 32 32 (omega arith) e (seq_r (byte_r (is (only 32))) λ _. alt_r (is (only 32)) (seq_r (byte_r (is (only 32))) λ _. seq_r comment_r λ _. below_r n) v) (below_r n) refl
      ∙ (ap (λ (o : Out ℕ). bind o (λ _. alt_r (is (only 32)) (seq_r (byte_r (is (only 32))) λ _. seq_r comment_r λ _. below_r n) v)) (byte_is doc at 32 32 (omega arith) e refl)
      ∙ alt_not doc (at + 1) 32 (peek doc (at + 1)) (omega arith) refl (seq_r (byte_r (is (only 32))) λ _. seq_r comment_r λ _. below_r n) v f)

  rest_none : (peek doc at ≡ 32 → ⊥) → rest_r v n at (drop at doc) ≡ bind (ends_r false at (drop at doc)) (λ _. n)
  unfolding rest_r ends_r feed_r
  rest_none f =
      alt_not doc at 32 (peek doc at) (omega arith) refl (seq_r (byte_r (is (only 32))) λ _. alt_r (is (only 32)) (seq_r (byte_r (is (only 32))) λ _. seq_r comment_r λ _. below_r n) v) (below_r n) f
      ∙ sym (ap (λ (o : Out (List ℕ)). bind (bind o (λ _. byte_r (is (only 10)))) (λ _. n)) (alt_not doc at 32 (peek doc at) (omega arith) refl line_comment_r (ret_r []) f))

  behind_comment : {o : Out (List ℕ)} → Firm o → bind o (λ _. below_r n) ≡ bind (bind o (λ _. byte_r (is (only 10)))) (λ _. n)
  behind_comment f_ok = refl
  behind_comment f_bad = refl

  rest_two : 32 ≡ peek doc at → 32 ≡ peek doc (at + 1) → rest_r v n at (drop at doc) ≡ bind (ends_r false at (drop at doc)) (λ _. n)
  unfolding rest_r ends_r feed_r
  rest_two e f =
      let p : drop at doc ≡ 32 ∷ drop (suc at) doc = peek_cons doc at 32 e (omega arith) in
      let q : drop (suc at) doc ≡ 32 ∷ drop (suc (suc at)) doc = peek_cons doc (suc at) 32 (rw add-one at f) (omega arith) in
      rw (p, q) (behind_comment (comment_ll.firm (suc (suc at)) (drop (suc (suc at)) doc)))

rest_below : (v n : Reader Tree) (doc : List ℕ) (c : Cursor) (p : ℕ) → Gap doc c (Err p) → rest_r v n c.at (drop c.at doc) ≡ bind (ends_r false c.at (drop c.at doc)) (λ _. n)
rest_below v n doc c p (no_space _ f) = rest_none v n doc c.at f
rest_below v n doc c p (two_spaces _ e f) = rest_two v n doc c.at e f

-- ---- a cursor that stands further on

pub ready_at : (doc : List ℕ) (c d : Cursor) (a : ℕ) → Ready doc c → c.at ≤ a → a ≤ length doc → d ≡ record { at = a; row = c.row; text = c.text } → Ready doc d
ready_at doc c d a r h l e =
    rw e (record { small = r.small; inside = l; few_rows = omega (arith, r.few_rows); few_text = omega (arith, r.few_text); few_escapes = omega (arith, r.few_escapes) })

-- the answer of a block that begins further on, at d
pub block_from : (doc : List ℕ) (c d : Cursor) (p a : ℕ) (o o' : Out Tree) (b : Block) (R R' T T' : List ℕ) → o ≡ o' → c.at ≤ a → d ≡ record { at = a; row = c.row; text = c.text }
    → Blocks doc d p o' b R R' T T' → Blocks doc c p o b R R' T T'
unfolding Blocks
block_from doc c d p a o o' (Err q) R R' T T' h l e w = h ∙ w
block_from doc c d p a o o' (Ok (n, far, z)) R R' T T' h l e w =
    let k = w.taken in
    let s = k.span in
    let x : d.at ≡ a = ap (λ (m : Cursor). m.at) e in
    let y : d.row ≡ c.row = ap (λ (m : Cursor). m.row) e in
    let v : d.text ≡ c.text = ap (λ (m : Cursor). m.text) e in
    record {
      taken =
          record {
            tree = k.tree;
            is = h ∙ k.is;
            span =
                record {
                  ahead = omega (arith, s.ahead);
                  inside = s.inside;
                  row = omega (arith, s.row);
                  text = rw v at s.text;
                  escapes = rw v at s.escapes;
                  few_rows = omega (arith, s.few_rows);
                  few_text = omega (arith, s.few_text);
                  few_escapes = omega (arith, s.few_escapes);
                };
            filled = record { table = rw (y, v) at k.filled.table; room = rw v at k.filled.room };
          };
      ends = w.ends;
      inner = w.inner;
    }

-- ---- what stands behind a colon

pub record OneSpace (doc : List ℕ) (c d : Cursor) : Type 0 where
  pub next : d ≡ onward c 1
  pub space : 32 ≡ peek doc c.at
  pub single : peek doc (c.at + 1) ≡ 32 → ⊥

module _ (doc : List ℕ) (c : Cursor) (x : Ans) (g : Gap doc c x) where
  pub gap_one : (d : Cursor) → x ≡ Ok d → OneSpace doc c d
  gap_one d e = go d (rw e at g)
    where
      go : (d : Cursor) → Gap doc c (Ok d) → OneSpace doc c d
      go _ (one_space h k) = record { next = refl; space = h; single = k }

  pub spaced_ready : (d : Cursor) → x ≡ Ok d → Ready doc c → Ready doc d
  spaced_ready d e r =
      let u = gap_one d e in
      let i = peek_in doc c.at 32 u.space (omega arith) in
      ready_at doc c d (c.at + 1) r (omega arith) (omega arith) u.next

  module _ (p k n : ℕ) (R R' T T' : List ℕ) where
    abbrev Behind : Block → Type 0
    Behind b = Blocks doc c p (rest_r (on_r k n) (nested_r k (suc (suc n))) c.at (drop c.at doc)) b R R' T T'

    pub behind_on : (d : Cursor) (b : Block) → x ≡ Ok d → Blocks doc d p (on_r k n d.at (drop d.at doc)) b R R' T T' → Behind b
    behind_on d b e w =
        let u = gap_one d e in
        let z : d.at ≡ c.at + 1 = ap (λ (m : Cursor). m.at) u.next in
        block_from doc c d p (c.at + 1) _ _ b R R' T T' (rest_on (on_r k n) (nested_r k (suc (suc n))) doc c.at u.space u.single ∙ ap (λ (i : ℕ). on_r k n i (drop i doc)) (sym z)) (omega arith) u.next w

    pub below_is : (q : ℕ) → x ≡ Err q → rest_r (on_r k n) (nested_r k (suc (suc n))) c.at (drop c.at doc) ≡ bind (ends_r false c.at (drop c.at doc)) (λ _. nested_r k (suc (suc n)))
    below_is q e = rest_below (on_r k n) (nested_r k (suc (suc n))) doc c q (rw e at g)

    module _ (s : Skip) (y : ℕ) (e : x ≡ Err y) (h : Skips doc c.at (ends_r false c.at (drop c.at doc)) s) where
      pub behind_bad : (q : ℕ) → s ≡ Err q → Behind (Err q)
      unfolding Skips
      behind_bad q z =
          let k' : ends_r false c.at (drop c.at doc) ≡ bad q = rw z at h in
          Laws.not_block doc c p _ R R' T T' q (below_is y e ∙ ap (λ (o : Out ℕ). bind o (λ _. nested_r k (suc (suc n)))) k')

      pub behind_nested : (a j : ℕ) (d : Cursor) (b : Block) → s ≡ Ok a → d ≡ record { at = a; row = c.row; text = c.text } → j ≡ n + 2
          → Blocks doc d p (nested_r k j d.at (drop d.at doc)) b R R' T T' → Behind b
      unfolding Skips
      behind_nested a j d b z f i w =
          let v : Ends doc c.at (ends_r false c.at (drop c.at doc)) a = rw z at h in
          let u : d.at ≡ a = ap (λ (m : Cursor). m.at) f in
          let t : j ≡ suc (suc n) = omega arith in
          block_from doc c d p a _ _ b R R' T T'
          (below_is y e ∙ (ap (λ (o : Out ℕ). bind o (λ _. nested_r k (suc (suc n)))) v.is ∙ rw (u, t) refl))
          v.behind
          f
          w

pub ended_ready : (doc : List ℕ) (c d : Cursor) (o : Out ℕ) (s : Skip) (a : ℕ) → Ready doc c → Skips doc c.at o s → s ≡ Ok a
    → d ≡ record { at = a; row = c.row; text = c.text } → Ready doc d
unfolding Skips
ended_ready doc c d o s a r h z e = let k : Ends doc c.at o a = rw z at h in ready_at doc c d a r k.behind k.inside e

-- ---- a property

module _ (doc : List ℕ) (c : Cursor) (p : ℕ) (a : Ans) (R R' T T' : List ℕ) (w : Answers doc c p (key_r c.at (drop c.at doc)) a R R' T T') where
  pub key_inside : (m : Cursor) → a ≡ Ok m → m.at ≤ length doc
  key_inside m e = (Laws.taken doc c p _ R R' T T' a m e w).span.inside

  module _ (k n : ℕ) where
    pub property_none : (q : ℕ) → a ≡ Err q → Members true doc c p (member_r true k n c.at (drop c.at doc)) (Err q) R R' T T'
    unfolding Members member_r property_r
    property_none q e = ap (λ (o : Out Tree). bind o (λ ky. seq_r (byte_r (is (only 58))) λ _. map_r (field ky) (rest_r (on_r k n) (nested_r k (suc (suc n)))))) (Laws.refusal doc c p _ R R' T T' a q e w)

  module _ (m : Cursor) (t : Ans) (e : a ≡ Ok m) (h : Takes doc m 58 t) where
    pub got : Taken doc c p (key_r c.at (drop c.at doc)) m 0 R R' T T'
    got = Laws.taken doc c p _ R R' T T' a m e w

    module _ (k n : ℕ) where
      pub property_cut : (q : ℕ) → t ≡ Err q → Members true doc c p (member_r true k n c.at (drop c.at doc)) (Err q) R R' T T'
      unfolding Members member_r property_r
      property_cut q z =
          ap (λ (o : Out Tree). bind o (λ ky. seq_r (byte_r (is (only 58))) λ _. map_r (field ky) (rest_r (on_r k n) (nested_r k (suc (suc n)))))) got.is
          ∙ (ap (λ (o : Out ℕ). bind o (λ _. map_r (field got.tree) (rest_r (on_r k n) (nested_r k (suc (suc n)))))) (byte_not doc m.at 58 (peek doc m.at) (omega arith) refl (Laws.take_other doc m 58 t h q z))
          ∙ ap bad (sym (Laws.take_place doc m 58 t h q z)))

    module _ (d : Cursor) (z : t ≡ Ok d) where
      y : d ≡ onward m 1
      y = Laws.take_next doc m 58 t h d z

      colon : 58 ≡ peek doc m.at
      colon = Laws.take_byte doc m 58 t h d z

      colon_in : m.at + 1 ≤ length doc
      colon_in = let i = peek_in doc m.at 58 colon (omega arith) in omega arith

      pub property_ready : Stands doc c → Ready doc d
      property_ready r =
          let s = got.span in
          rw y
          (record {
            small = r.small;
            inside = colon_in;
            few_rows = omega (arith, r.few_rows, s.row, s.few_rows);
            few_text = omega (arith, r.few_text, s.text, s.few_text);
            few_escapes = omega (arith, r.few_escapes, s.escapes, s.few_escapes);
          })

      module _ (k n : ℕ) (R'' T'' : List ℕ) where
        pub property_is : member_r true k n c.at (drop c.at doc) ≡ fmap (field got.tree) (rest_r (on_r k n) (nested_r k (suc (suc n))) d.at (drop d.at doc))
        unfolding member_r property_r
        property_is =
            let u : d.at ≡ m.at + 1 = ap (λ (x : Cursor). x.at) y in
            ap (λ (o : Out Tree). bind o (λ ky. seq_r (byte_r (is (only 58))) λ _. map_r (field ky) (rest_r (on_r k n) (nested_r k (suc (suc n)))))) got.is
            ∙ (ap (λ (o : Out ℕ). bind o (λ _. map_r (field got.tree) (rest_r (on_r k n) (nested_r k (suc (suc n)))))) (byte_is doc m.at 58 58 (omega arith) colon refl)
            ∙ rw u (map_fmap (field got.tree) (rest_r (on_r k n) (nested_r k (suc (suc n))) (m.at + 1) (drop (m.at + 1) doc))))

        pub property_got : (r : Block) → Blocks doc d p (rest_r (on_r k n) (nested_r k (suc (suc n))) d.at (drop d.at doc)) r R' R'' T' T''
            → Members true doc c p (member_r true k n c.at (drop c.at doc)) r R R'' T T''
        unfolding Members Blocks sizes
        property_got (Err q) x = property_is ∙ ap (fmap (field got.tree)) x
        property_got (Ok (o, far, f)) x =
            let s = got.span in
            let v = x.taken in
            let u : d.at ≡ m.at + 1 = ap (λ (x : Cursor). x.at) y in
            let i : d.row ≡ m.row = ap (λ (x : Cursor). x.row) y in
            let j : d.text ≡ m.text = ap (λ (x : Cursor). x.text) y in
            let w₁ = written_one doc c m p got.tree R R' T T' s got.filled in
            let w₂ = written_one doc d o p v.tree R' R'' T' T'' v.span v.filled in
            let w₀ : Written doc c d p (got.tree ∷ []) R R' T T' =
            record {
              onward = omega (arith, w₁.onward);
              inside = omega (arith, colon_in);
              row = omega (arith, w₁.row);
              text = ap spot j ∙ w₁.text;
              escapes = ap tally j ∙ w₁.escapes;
              few_rows = omega (arith, w₁.few_rows);
              few_text = omega (arith, w₁.few_text);
              few_escapes = omega (arith, w₁.few_escapes);
              table = w₁.table;
              room = w₁.room;
            } in
            record {
              member = field got.tree v.tree;
              is = property_is ∙ (ap (fmap (field got.tree)) v.is ∙ fmap_reached (field got.tree) far v.tree o.at (drop o.at doc));
              begins = key_begins c.at (drop c.at doc) got.tree m.at (drop m.at doc) got.is;
              ends = x.ends;
              inner = x.inner;
              spare = omega (arith, s.few_rows, v.span.few_rows);
              written = written_append doc c d o p (got.tree ∷ []) (v.tree ∷ []) R R' R'' T T' T'' w₀ w₂;
            }

pub ruleset behind_colon = (spaced_ready, behind_on, behind_bad, behind_nested, ended_ready, rules)

pub ruleset property_laws = (property_none, property_cut, property_ready, property_got, rules)
