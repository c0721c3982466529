-- What members, blocks, nested bullets, items and nested content have to show at their returns and calls, from what the tests and the calls on the way say. Assumes nothing.
use mathlib.Core.Path.{◌≡◌, refl, sym, ap, subst, ◌∙◌}
use mathlib.Core.List.{List, [], ◌∷◌}
use mathlib.Core.Bool.{Bool, true, false}
use Prim.Native.Nat.{ℕ, zero, suc, ◌+◌, ◌-◌, ◌*◌, ◌≤◌, ◌<◌, max}
use native.Mathlib.Omega.{arith}
use lib.ListN.{length, drop}
use lib.Seq.{sets, drop-drop}
use borrow.Author.Rules.{rules}
use Rattle.language.specs.Tree.{unlined, Tree, entry, sizes, width, row_list}
use Rattle.exact.specs.Out.{Out, Reader, bind, fmap, bad}
use Rattle.exact.specs.Answers.{map_fmap}
use Rattle.exact.specs.Comb.{map_r}
use Rattle.exact.specs.Block.{lead}
use Rattle.exact.specs.Lines.{spaces, indented_ok, indented_bad}
use Rattle.rooms.specs.declared.Cursor.{Cursor}
use Rattle.rooms.specs.Contract.{Ans}
use Rattle.std.specs.declared.result.Result.TheVariants.{Err, Ok}
use Rattle.rooms.specs.Contract.{Block}
use Rattle.rooms.specs.Contract.{ample, onward, Ready, Blocks}
use Rattle.rooms.specs.Indent.{spaces_lead}
use Rattle.rooms.specs.Laws
use Rattle.inline.specs.Contract.{Passed}
use Rattle.inline.specs.Passes.{passed_in, word_two, word_none}
use Rattle.inline.specs.Written.{written_one}
use Rattle.strings.specs.Keys.{key_r}
use Rattle.blocks.specs.Or.{merge}
use Rattle.blocks.specs.KeyLook.{keyed, dashed}
use Rattle.blocks.specs.Array.{dashed_r, bullet_r}
use Rattle.blocks.specs.Openers.{opener_r, nested_line_r}
use Rattle.blocks.specs.Nested.{nested_here_r, nested_r, item_r}
use Rattle.blocks.proofs.StraightLaws.{nested_array, nested_object, nested_line, item_array, item_object, item_line}
use Rattle.judge.specs.declared.Start.{Start}
use Rattle.judge.specs.declared.Start.TheVariants.{Dash, Key, Line}
use Rattle.judge.specs.Members.{Member, kind_of, member_r, block_r, array_block, object_block}
use Rattle.judge.specs.Contract.{Stands, end_r, Neither, Looked, later, Enclosed, Again, Ended, Follows, Read, Members}
use Rattle.judge.proofs.Outs.{fmap_reached}
use Rattle.judge.proofs.Lining.{later_block}
use Rattle.judge.proofs.Colons.{ready_at, block_from}
use Rattle.judge.proofs.Blocks

-- ---- answers of members, taken apart

module _ (o : Bool) (doc : List ℕ) (c : Cursor) (p : ℕ) (out : Out (Member o)) (a : Block) (R R' T T' : List ℕ) (w : Members o doc c p out a R R' T T') where
  pub member_read : (n : Cursor) (far e : ℕ) → a ≡ Ok (n, far, e) → Read o doc c p out n far e R R' T T'
  unfolding Members
  member_read n far e z = rw z at w

  pub member_refused : (q : ℕ) → a ≡ Err q → out ≡ bad q
  unfolding Members
  member_refused q z = rw z at w

-- ---- a member

module _ (doc : List ℕ) (c : Cursor) (p k n : ℕ) (o : Bool) (R R' T T' : List ℕ) where
  pub member_property : (b : Block) → o ≡ true → Members true doc c p (member_r true k n c.at (drop c.at doc)) b R R' T T'
      → Members o doc c p (member_r o k n c.at (drop c.at doc)) b R R' T T'
  member_property b e w = rw e w

  module _ (a : Ans) (e : o ≡ false) (h : Passed doc c 45 32 a) where
    pub member_cut : (q : ℕ) → a ≡ Err q → Members o doc c p (member_r o k n c.at (drop c.at doc)) (Err q) R R' T T'
    unfolding Members member_r dashed_r
    member_cut q l =
        rw e
        (ap (λ (u : Out ℕ). bind u (λ _. map_r (entry c.at) (item_r k (suc (suc n))))) (word_none doc c 45 32 (omega arith) (omega arith) q (rw l at h)))

    module _ (m : Cursor) (l : a ≡ Ok m) where
      went : (m ≡ onward c 2) × (c.at + 2 ≤ length doc)
      went = passed_in doc c m 45 32 (omega arith) (rw l at h)

      f : m ≡ onward c 2
      f = went.0

      pub member_ready : Stands doc c → Ready doc m
      member_ready r = rw f (record { small = r.small; inside = went.1; few_rows = omega (arith, r.few_rows); few_text = omega (arith, r.few_text); few_escapes = omega (arith, r.few_escapes) })

      pub member_is : member_r false k n c.at (drop c.at doc) ≡ fmap (entry c.at) (item_r k (suc (suc n)) m.at (drop m.at doc))
      unfolding member_r dashed_r
      member_is =
          let u : m.at ≡ c.at + 2 = ap (λ (x : Cursor). x.at) f in
          ap (λ (u : Out ℕ). bind u (λ _. map_r (entry c.at) (item_r k (suc (suc n))))) (word_two doc c 45 32 (omega arith) (omega arith) m (rw l at h))
          ∙ rw u (map_fmap (entry c.at) (item_r k (suc (suc n)) (c.at + 2) (drop (c.at + 2) doc)))

      pub member_item : (j : ℕ) (b : Block) → j ≡ n + 2 → Blocks doc m p (item_r k j m.at (drop m.at doc)) b R R' T T'
          → Members o doc c p (member_r o k n c.at (drop c.at doc)) b R R' T T'
      unfolding Members Blocks sizes
      member_item j b z w = let t : j ≡ suc (suc n) = omega arith in rw e (go b (rw t at w))
        where
          go : (b : Block) → Blocks doc m p (item_r k (suc (suc n)) m.at (drop m.at doc)) b R R' T T' → Members false doc c p (member_r false k n c.at (drop c.at doc)) b R R' T T'
          go (Err q) w = member_is ∙ ap (fmap (entry c.at)) w
          go (Ok (x, far, z)) w =
              let v = w.taken in
              let s = v.span in
              let u : m.at ≡ c.at + 2 = ap (λ (x : Cursor). x.at) f in
              let y : m.row ≡ c.row = ap (λ (x : Cursor). x.row) f in
              let i : m.text ≡ c.text = ap (λ (x : Cursor). x.text) f in
              let g = written_one doc m x p v.tree R R' T T' s v.filled in
              record {
                member = entry c.at v.tree;
                is = member_is ∙ (ap (fmap (entry c.at)) v.is ∙ fmap_reached (entry c.at) far v.tree x.at (drop x.at doc));
                begins = refl;
                ends = w.ends;
                inner = w.inner;
                spare = omega (arith, s.few_rows);
                written =
                    record {
                      onward = omega (arith, g.onward);
                      inside = g.inside;
                      row = omega (arith, g.row);
                      text = rw i at g.text;
                      escapes = rw i at g.escapes;
                      few_rows = omega (arith, g.few_rows);
                      few_text = omega (arith, g.few_text);
                      few_escapes = omega (arith, g.few_escapes);
                      table = rw (y, i) at g.table;
                      room = rw i at g.room;
                    };
              }

-- ---- a block

abbrev Within : Cursor → Cursor
Within c = record { at = c.at; row = c.row + 1; text = c.text }

module _ (o : Bool) (k n : ℕ) (doc : List ℕ) (c : Cursor) (R₀ T₀ : List ℕ) where
  pub block_start : Ready doc c → Blocks.Loop o k n doc c R₀ T₀ R₀ T₀ (Within c) 0 0
  block_start d = Blocks.loop_start o k n doc c R₀ T₀ d

  module _ (R T : List ℕ) (cur : Cursor) (far cnt : ℕ) (l : Blocks.Loop o k n doc c R₀ T₀ R T cur far cnt) where
    pub block_ready : Stands doc cur
    block_ready = l.ready

    module _ (a : Block) (R' T' : List ℕ) (w : Members o doc cur c.row (member_r o k n cur.at (drop cur.at doc)) a R R' T T') where
      pub block_refused : (p q g : ℕ) → a ≡ Err q → g ≡ max far q → Blocks doc c p (block_r o k n c.at (drop c.at doc)) (Err g) R₀ R' T₀ T'
      block_refused p q g e h =
          rw h (Blocks.block_bad o k n doc c R₀ T₀ R T R' T' cur far cnt p q l (member_refused o doc cur c.row _ a R R' T T' w q e))

      module _ (m : Cursor) (f e : ℕ) (z : a ≡ Ok (m, f, e)) where
        got : Read o doc cur c.row (member_r o k n cur.at (drop cur.at doc)) m f e R R' T T'
        got = member_read o doc cur c.row _ a R R' T T' w m f e z

        pub block_inside : m.at ≤ length doc
        block_inside = got.written.inside

        pub block_count : cnt < ample
        block_count = let s = got.spare in let i = got.written.inside in let r = l.from.small in omega (arith, l.few)

        pub block_encloses : (i : ℕ) → i ≡ cnt + 1 → Enclosed c e i m.row
        block_encloses i h =
            let s = got.spare in
            let v = got.written in
            let r = l.from in
            let y = l.ready in
            record {
              first_fits = omega (arith, r.small, r.inside);
              after_fits = omega (arith, r.small, got.inner, v.inside);
              count_fits = omega (arith, l.few, r.small, v.inside);
              row_fits = omega (arith, r.few_rows, r.small, r.inside);
              next_fits = omega (arith, r.small, v.inside, v.row, v.few_rows, y.few_rows);
            }

        module _ (x : Ans) (fl : Follows o doc m n x) where
          pub block_done : (p q g h i : ℕ) (R'' : List ℕ) → x ≡ Err q → g ≡ max far f → h ≡ max g q → i ≡ cnt + 1
              → R'' ≡ sets R' (width * c.row) (row_list unlined (kind_of o) c.at e 0 i p m.row)
              → Blocks doc c p (block_r o k n c.at (drop c.at doc)) (Ok (m, h, e)) R₀ R'' T₀ T'
          unfolding Follows
          block_done p q g h i R'' y u v j s =
              let d : Ended o doc m.at n q = rw y at fl in
              rw (v, u) (Blocks.block_last o k n doc c R₀ T₀ R T R' T' cur m far cnt f e l got p q R'' d (rw j at s))

          pub block_again : (g : ℕ) (d : Cursor) → x ≡ Ok d → g ≡ max far f → Blocks.Loop o k n doc c R₀ T₀ R' T' d g (cnt + 1)
          unfolding Follows
          block_again g d y u =
              let q : Again o doc m.at n d.at × (d ≡ record { at = d.at; row = m.row; text = m.text }) = rw y at fl in
              rw u (subst (λ (z : Cursor). Blocks.Loop o k n doc c R₀ T₀ R' T' z (max far f) (cnt + 1)) (sym q.1) (Blocks.loop_more o k n doc c R₀ T₀ R T R' T' cur m far cnt f e l got d.at q.0))

          pub block_falls : (d : Cursor) → x ≡ Ok d → length doc - d.at < length doc - cur.at
          unfolding Follows
          block_falls d y =
              let q : Again o doc m.at n d.at × (d ≡ record { at = d.at; row = m.row; text = m.text }) = rw y at fl in
              Blocks.loop_falls o k n doc c R₀ T₀ R T R' T' cur m far cnt f e l got d.at q.0

-- ---- a nested bullet

module _ (k n : ℕ) (doc : List ℕ) (c : Cursor) (p : ℕ) (R R' T T' : List ℕ) (a : Block) (w : Members false doc (Within c) c.row (member_r false k n c.at (drop c.at doc)) a R R' T T') where
  pub bullet_refused : (q : ℕ) → a ≡ Err q → Blocks doc c p (bullet_r (item_r k (suc (suc n))) c.at (drop c.at doc)) (Err q) R R' T T'
  bullet_refused q e = Blocks.bullet_bad k n doc c p R T R' T' q (member_refused false doc (Within c) c.row _ a R R' T T' w q e)

  module _ (m : Cursor) (f e : ℕ) (z : a ≡ Ok (m, f, e)) where
    pub bullet_encloses : Ready doc c → Enclosed c e 1 m.row
    bullet_encloses r =
        let g = member_read false doc (Within c) c.row _ a R R' T T' w m f e z in
        let s = g.spare in
        let v = g.written in
        record {
          first_fits = omega (arith, r.small, r.inside);
          after_fits = omega (arith, r.small, g.inner, v.inside);
          count_fits = omega arith;
          row_fits = omega (arith, r.few_rows, r.small, r.inside);
          next_fits = omega (arith, r.small, r.few_rows, v.inside, v.row, v.few_rows);
        }

    pub bullet_done : (R'' : List ℕ) → R'' ≡ sets R' (width * c.row) (row_list unlined (kind_of false) c.at e 0 1 p m.row)
        → Blocks doc c p (bullet_r (item_r k (suc (suc n))) c.at (drop c.at doc)) (Ok (m, f, e)) R R'' T T'
    bullet_done R'' s = Blocks.bullet_last k n doc c p R T R' T' R'' m f e (member_read false doc (Within c) c.row _ a R R' T T' w m f e z) s

pub bullet_ready : (doc : List ℕ) (c : Cursor) → Ready doc c → Stands doc (Within c)
bullet_ready doc c r = record { small = r.small; inside = r.inside; few_rows = omega (arith, r.few_rows); few_text = r.few_text; few_escapes = r.few_escapes }

-- ---- by a look

pub looked_dash : (doc : List ℕ) (at : ℕ) (s : Start) → Looked doc at s → s ≡ Dash → dashed (drop at doc) ≡ true
unfolding Looked
looked_dash doc at s h e = rw e at h

pub looked_key : (doc : List ℕ) (at : ℕ) (s : Start) → Looked doc at s → s ≡ Key → keyed (key_r at (drop at doc)) ≡ true
unfolding Looked
looked_key doc at s h e = rw e at h

pub looked_line : (doc : List ℕ) (at : ℕ) (s : Start) (q : ℕ) → Looked doc at s → s ≡ Line q → Neither at (drop at doc) q
unfolding Looked
looked_line doc at s q h e = rw e at h

-- ---- an item

-- which reader an item's is, by the look
module _ (n k at : ℕ) (r : List ℕ) where
  pub item_none_is : k ≡ 0 → item_r k n at r ≡ opener_r (end_r false) k n at r
  unfolding item_r
  item_none_is e = rw e refl

  module _ (z : k ≡ 0 → ⊥) where
    pub item_dash_is : dashed r ≡ true → item_r k n at r ≡ bullet_r (item_r (k - 1) (suc (suc n))) at r
    item_dash_is h = go k z
      where
        go : (k : ℕ) → (k ≡ 0 → ⊥) → item_r k n at r ≡ bullet_r (item_r (k - 1) (suc (suc n))) at r
        go zero z = absurd (z refl)
        go (suc k) z = let y : suc k - 1 ≡ k = omega arith in rw y (item_array k n at r h)

    pub item_key_is : keyed (key_r at r) ≡ true → item_r k n at r ≡ block_r true (k - 1) n at r
    item_key_is h = go k z
      where
        go : (k : ℕ) → (k ≡ 0 → ⊥) → item_r k n at r ≡ block_r true (k - 1) n at r
        go zero z = absurd (z refl)
        go (suc k) z = let y : suc k - 1 ≡ k = omega arith in rw y (item_object k n at r h ∙ ap (λ (q : Reader Tree). q at r) (object_block k n))

    pub item_line_is : (q : ℕ) → Neither at r q → item_r k n at r ≡ merge (opener_r (end_r false) k n at r) (bad q)
    item_line_is q g = go k z
      where
        go : (k : ℕ) → (k ≡ 0 → ⊥) → item_r k n at r ≡ merge (opener_r (end_r false) k n at r) (bad q)
        go zero z = absurd (z refl)
        go (suc k) z = rw g.stops (item_line k n at r g.no_dash g.no_key)

module _ (doc : List ℕ) (c : Cursor) (p n : ℕ) (b : Block) (R R' T T' : List ℕ) where
  abbrev At : Reader Tree → Type 0
  At r = Blocks doc c p (r c.at (drop c.at doc)) b R R' T T'

  pub item_none : (k : ℕ) → k ≡ 0 → At (opener_r (end_r false) k n) → At (item_r k n)
  item_none k e w = rw (item_none_is n k c.at (drop c.at doc) e) w

  module _ (k : ℕ) (z : k ≡ 0 → ⊥) (s : Start) (h : Looked doc c.at s) where
    pub item_dash : s ≡ Dash → At (bullet_r (item_r (k - 1) (suc (suc n)))) → At (item_r k n)
    item_dash e w = rw (item_dash_is n k c.at (drop c.at doc) z (looked_dash doc c.at s h e)) w

    pub item_key : s ≡ Key → At (block_r true (k - 1) n) → At (item_r k n)
    item_key e w = rw (item_key_is n k c.at (drop c.at doc) z (looked_key doc c.at s h e)) w

    pub item_other : (q : ℕ) (l : Block) → s ≡ Line q → b ≡ later l q → Blocks doc c p (opener_r (end_r false) k n c.at (drop c.at doc)) l R R' T T' → At (item_r k n)
    item_other q l e f w = rw (f, item_line_is n k c.at (drop c.at doc) z q (looked_line doc c.at s q h e)) (later_block doc c p _ l q R R' T T' w)

-- ---- nested content

module _ (doc : List ℕ) (c : Cursor) (p n i : ℕ) (R R' T T' : List ℕ) (h : i ≡ lead n (drop c.at doc)) where
  pub nested_cut : (k : ℕ) (m : Cursor) → m ≡ record { at = c.at + i; row = c.row; text = c.text } → i < n → Blocks doc c p (nested_r k n c.at (drop c.at doc)) (Err m.at) R R' T T'
  nested_cut k m f l =
      let s = spaces_lead n (drop c.at doc) in
      Laws.not_block doc c p _ R R' T T' m.at
      (indented_bad n (nested_here_r k n) c.at (drop c.at doc) (omega arith) ∙ (ap (λ (j : ℕ). bad (c.at + j)) (s ∙ sym h) ∙ ap bad (sym (ap (λ (x : Cursor). x.at) f))))

  module _ (m : Cursor) (l : n ≤ i) (u : i ≤ n) (f : m ≡ record { at = c.at + i; row = c.row; text = c.text }) where
    pub nested_ready : Ready doc c → c.at + i ≤ length doc → Ready doc m
    nested_ready r k = ready_at doc c m (c.at + i) r (omega arith) k f

    pub nested_at : (k : ℕ) → nested_r k n c.at (drop c.at doc) ≡ nested_here_r k n m.at (drop m.at doc)
    nested_at k =
        let e : i ≡ n = omega arith in
        let s : spaces n (drop c.at doc) ≡ n = spaces_lead n (drop c.at doc) ∙ (sym h ∙ e) in
        let v : m.at ≡ c.at + n = ap (λ (x : Cursor). x.at) f ∙ ap (c.at +◌) e in
        indented_ok n (nested_here_r k n) c.at (drop c.at doc) s ∙ rw (drop-drop n c.at doc, v) refl

    module _ (k : ℕ) (b : Block) where
      abbrev In : Type 0
      In = Blocks doc c p (nested_r k n c.at (drop c.at doc)) b R R' T T'

      from : (o : Out Tree) → nested_here_r k n m.at (drop m.at doc) ≡ o → Blocks doc m p o b R R' T T' → In
      from o e w = block_from doc c m p (c.at + i) _ o b R R' T T' (nested_at k ∙ e) (omega arith) f w

      pub nested_none : k ≡ 0 → Blocks doc m p (nested_line_r n m.at (drop m.at doc)) b R R' T T' → In
      unfolding nested_here_r
      nested_none e w = from _ (rw e refl) w

      module _ (z : k ≡ 0 → ⊥) (s : Start) (g : Looked doc m.at s) where
        pub dash_is : s ≡ Dash → nested_here_r k n m.at (drop m.at doc) ≡ block_r false (k - 1) n m.at (drop m.at doc)
        dash_is e = go k z
          where
            go : (k : ℕ) → (k ≡ 0 → ⊥) → nested_here_r k n m.at (drop m.at doc) ≡ block_r false (k - 1) n m.at (drop m.at doc)
            go zero z = absurd (z refl)
            go (suc k) z =
                let y : k ≡ suc k - 1 = omega arith in
                nested_array k n m.at (drop m.at doc) (looked_dash doc m.at s g e)
                ∙ (ap (λ (r : Reader Tree). r m.at (drop m.at doc)) (array_block k n) ∙ ap (λ (j : ℕ). block_r false j n m.at (drop m.at doc)) y)

        pub key_is : s ≡ Key → nested_here_r k n m.at (drop m.at doc) ≡ block_r true (k - 1) n m.at (drop m.at doc)
        key_is e = go k z
          where
            go : (k : ℕ) → (k ≡ 0 → ⊥) → nested_here_r k n m.at (drop m.at doc) ≡ block_r true (k - 1) n m.at (drop m.at doc)
            go zero z = absurd (z refl)
            go (suc k) z =
                let y : k ≡ suc k - 1 = omega arith in
                nested_object k n m.at (drop m.at doc) (looked_key doc m.at s g e)
                ∙ (ap (λ (r : Reader Tree). r m.at (drop m.at doc)) (object_block k n) ∙ ap (λ (j : ℕ). block_r true j n m.at (drop m.at doc)) y)

        pub line_is : (q : ℕ) → s ≡ Line q → nested_here_r k n m.at (drop m.at doc) ≡ merge (nested_line_r n m.at (drop m.at doc)) (bad q)
        line_is q e = go k z
          where
            go : (k : ℕ) → (k ≡ 0 → ⊥) → nested_here_r k n m.at (drop m.at doc) ≡ merge (nested_line_r n m.at (drop m.at doc)) (bad q)
            go zero z = absurd (z refl)
            go (suc k) z =
                let v = looked_line doc m.at s q g e in
                nested_line k n m.at (drop m.at doc) v.no_dash v.no_key ∙ ap (λ (j : ℕ). merge (nested_line_r n m.at (drop m.at doc)) (bad j)) (sym v.stops)

        pub nested_dash : s ≡ Dash → Blocks doc m p (block_r false (k - 1) n m.at (drop m.at doc)) b R R' T T' → In
        nested_dash e w = from _ (dash_is e) w

        pub nested_key : s ≡ Key → Blocks doc m p (block_r true (k - 1) n m.at (drop m.at doc)) b R R' T T' → In
        nested_key e w = from _ (key_is e) w

        pub nested_other : (q : ℕ) (y : Block) → s ≡ Line q → b ≡ later y q → Blocks doc m p (nested_line_r n m.at (drop m.at doc)) y R R' T T' → In
        nested_other q y e v w = from _ (line_is q e) (rw v (later_block doc m p _ y q R R' T T' w))

pub ruleset member_laws = (member_property, member_cut, member_ready, member_item, rules)

pub ruleset block_laws = (block_start, block_ready, block_refused, block_inside, block_count, block_encloses, block_done, block_again, block_falls, rules)

pub ruleset bullet_laws = (bullet_ready, bullet_refused, bullet_encloses, bullet_done, rules)

pub ruleset item_laws = (item_none, item_dash, item_key, item_other, rules)

pub ruleset nested_laws = (nested_cut, nested_ready, nested_none, nested_dash, nested_key, nested_other, rules)
