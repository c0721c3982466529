-- Block strings: the leader, the body below it, and the block that they make. Laws as `search` takes them. Assumes nothing.
use mathlib.Core.Path.{◌≡◌, refl, sym, ap, subst, ◌∙◌}
use mathlib.Core.List.{List, [], ◌∷◌, ◌++◌, append_assoc}
use Prim.Native.Nat.{ℕ, ◌+◌, ◌-◌, ◌≤◌, ◌<◌, ◌*◌, ◌^◌}
use native.Mathlib.Omega.{arith}
use lib.ListN.{length, drop, set, length-append}
use lib.Seq.{sets, slice, length-slice}
use lib.Dec.{lit<}
use borrow.Author.Rules.{rules}
use Rattle.exact.specs.Class.{is, only}
use Rattle.exact.specs.Out.{Out, bind, fmap, ok, soft, bad}
use Rattle.exact.specs.Lang.{ret_r, byte_r}
use Rattle.exact.specs.Answers.{map_fmap}
use Rattle.exact.specs.Comb.{seq_r, map_r}
use Rattle.exact.specs.Place.{peek, peek_in, byte_is, byte_not, alt_is, alt_not}
use Rattle.language.specs.Kind.{STRING}
use Rattle.language.specs.Tree.{Tree, leaf, unescaped}
use Rattle.language.specs.BlockText.{Line, body_text, body_end}
use Rattle.characters.specs.Reads.{Skip}
use Rattle.std.specs.declared.option.Option.TheVariants.{None, Some}
use Rattle.std.specs.declared.result.Result.TheVariants.{Err, Ok}
use Rattle.rooms.specs.Told.{ESCAPE, spot, tally, told, spot_plain, tally_plain, word_is}
use Rattle.rooms.specs.declared.Cursor.{Cursor}
use Rattle.rooms.specs.Contract.{Block}
use Rattle.rooms.specs.Contract.{Step}
use Rattle.rooms.specs.Contract.{Ans}
use Rattle.rooms.specs.Contract.{onward, Stepped, Takes, Blocks, Small, ample}
use Rattle.rooms.specs.Laws.{step_byte, step_next, step_inside, step_over, take_next, take_byte, take_place, take_other, not_block}
use Rattle.rooms.specs.Stores.{sets_append}
use Rattle.std.specs.declared.result.Result.{Result}
use Rattle.blocktext.specs.declared.body.Extent.{Extent}
use Rattle.blocktext.specs.Pieces.{solid_r}
use Rattle.blocktext.specs.TextLines.{body_r}
use Rattle.blocktext.specs.BlockStrings.{below_r, leader_text_r, open_string_tree, open_string_rest_r, open_string_r, property_string_tree, property_string_r}
use Rattle.blocktext.specs.Placed.{text_least, text_few, ends_inner}
use Rattle.blocktext.specs.Contract.{Asked, Led, TextAt, Texted, Untexted, no_text, no_feed, Bodied, BodyAt, body_lines, Known, Stored}
use Rattle.blocktext.specs.Leaves.{Begun, Rowed, Furthers, went, stopped, block_of}
use Rattle.blocktext.proofs.PartLaws.{not_led}

pub fmap_same : {X Y : Type 0} (f g : X → Y) (o : Out X) → ((x : X) → f x ≡ g x) → fmap f o ≡ fmap g o
fmap_same f g (ok v a t) h = ap (λ y. ok y a t) (h v)
fmap_same f g (soft p v a t) h = ap (λ y. soft p y a t) (h v)
fmap_same f g (bad p) h = refl

-- ---- the body below the LF at e
module _ (doc : List ℕ) (c : Cursor) (e x col : ℕ) (i : Begun doc c e x col) (g : Result Extent ℕ) (b : BodyAt doc e col g) where
  pub below_bad : (parent p : ℕ) (R T : List ℕ) → g ≡ Err p
      → Furthers doc c parent STRING (body_r col (e + 1) (drop (e + 1) doc)) (body_end e) (λ ls. unescaped (body_text ls)) (e + 1) x (Err p) R R T T
  unfolding BodyAt
  below_bad parent p R T z = stopped p refl (rw z at b)

  module _ (at far last least : ℕ) (z : g ≡ Ok (record { at = at; far = far; last = last; least = least })) where
    bodied : Bodied doc e col at far last least
    unfolding BodyAt
    bodied = rw z at b

    pub below_known : Known doc e col last least x
    below_known = record { at = at; far = far; body = bodied; inside = i.inside; small = i.ready.small; few = i.few; scant = i.scant; low = i.low }

    few : e + 1 + length (body_text bodied.lines) ≤ at
    few =
        let u = text_least bodied.placed in
        let k = ap length u in
        let f = text_few (Rattle.language.specs.BlockText.lower (length doc) bodied.lines) bodied.placed in
        omega arith

    inner : body_end e bodied.lines < at
    inner = ends_inner e (omega arith) bodied.placed

    stored_is : body_text (body_lines doc e col) ≡ body_text bodied.lines
    unfolding body_lines
    stored_is = ap (λ o. body_text (Rattle.blocktext.specs.Contract.lines_of o)) bodied.is

    module _ (y : ℕ) (T T' : List ℕ) (s : Stored x y (body_text (body_lines doc e col)) T T') where
      pub below_small : Small c.at last (spot c.text) (spot y) (c.row + 1)
      below_small =
          let a = i.ready.small in
          let d = i.ahead in
          let f = i.inside in
          let h = i.few in
          let j = i.ready.few_rows in
          let k = i.ready.few_text in
          let l = bodied.inside in
          let m = bodied.ends in
          let n = inner in
          let o = few in
          let p : y ≡ x + length (body_text bodied.lines) = s.end ∙ ap (λ t. x + length t) stored_is in
          let q : spot y ≡ spot x + length (body_text bodied.lines) = ap spot p ∙ spot_plain x (length (body_text bodied.lines)) (omega arith) in
          record { first_fits = omega arith; after_fits = omega arith; from_fits = omega arith; to_fits = omega arith; next_fits = omega arith }

      pub below_went : (parent : ℕ) (r : Block) (R R' : List ℕ) → Rowed c parent STRING at y far last r R R'
          → Furthers doc c parent STRING (body_r col (e + 1) (drop (e + 1) doc)) (body_end e) (λ ls. unescaped (body_text ls)) (e + 1) x r R R' T T'
      below_went parent r R R' w =
          let p : y ≡ x + told (unescaped (body_text bodied.lines)) = s.end ∙ (ap (λ t. x + length t) stored_is ∙ omega arith) in
          went
          (record {
            value = bodied.lines;
            at = at;
            far = far;
            reads = bodied.is;
            room = s.room ∙ ap (sets T (spot x)) stored_is;
            row = subst (λ n. Rowed c parent STRING at (x + told (unescaped (body_text bodied.lines))) far n r R R') bodied.ends (subst (λ n. Rowed c parent STRING at n far last r R R') p w);
            inside = bodied.inside;
            inner = omega (arith, inner);
            few = few;
            scant = omega (arith, few);
            ahead = bodied.ahead;
          })

-- ---- the reader at its leader
module _ (doc : List ℕ) (col at : ℕ) (h : peek doc at ≡ 96) where
  open_is : open_string_r col at (drop at doc) ≡ open_string_rest_r col at (at + 1) (drop (at + 1) doc)
  unfolding open_string_r
  open_is = ap (λ o. bind o (λ _. open_string_rest_r col at)) (byte_is doc at 96 (peek doc at) (omega arith) refl h)

  property_is : property_string_r col at (drop at doc) ≡ below_r (property_string_tree at) col (at + 1) (drop (at + 1) doc)
  unfolding property_string_r
  property_is = ap (λ o. bind o (λ _. below_r (property_string_tree at) col)) (byte_is doc at 96 (peek doc at) (omega arith) refl h)

module _ (tree : ℕ → List Line → Tree) (doc : List ℕ) (col e : ℕ) where
  below_is : peek doc e ≡ 10 → below_r tree col e (drop e doc) ≡ fmap (tree e) (body_r col (e + 1) (drop (e + 1) doc))
  below_is h =
      ap (λ o. bind o (λ _. map_r (tree e) (body_r col))) (byte_is doc e 10 (peek doc e) (omega arith) refl h) ∙ map_fmap (tree e) (body_r col (e + 1) (drop (e + 1) doc))

  below_not : (peek doc e ≡ 10 → ⊥) → below_r tree col e (drop e doc) ≡ bad e
  below_not h = ap (λ o. bind o (λ _. map_r (tree e) (body_r col))) (byte_not doc e 10 (peek doc e) (omega arith) refl h)

leader_none : (doc : List ℕ) (a : ℕ) → (peek doc a ≡ 32 → ⊥) → leader_text_r a (drop a doc) ≡ ok [] a (drop a doc)
unfolding leader_text_r
leader_none doc a h = alt_not doc a 32 (peek doc a) (omega arith) refl (seq_r (byte_r (is (only 32))) λ _. solid_r) (ret_r []) h

leader_some : (doc : List ℕ) (a : ℕ) → peek doc a ≡ 32 → leader_text_r a (drop a doc) ≡ solid_r (a + 1) (drop (a + 1) doc)
unfolding leader_text_r
leader_some doc a h =
    alt_is doc a 32 (peek doc a) (omega arith) refl (seq_r (byte_r (is (only 32))) λ _. solid_r) (ret_r []) h
    ∙ ap (λ o. bind o (λ _. solid_r)) (byte_is doc a 32 (peek doc a) (omega arith) refl h)

-- ---- a leader with a text
module _ (doc : List ℕ) (c : Cursor) (col : ℕ) (a : ℕ) (i : Led doc c col a) where
  led_is : open_string_r col c.at (drop c.at doc)
      ≡ bind (solid_r (a) (drop (a) doc)) (λ t. below_r (open_string_tree c.at t) col)
  led_is =
      open_is doc col c.at i.asked.first
      ∙ (ap (λ o. bind o (λ t. below_r (open_string_tree c.at t) col)) (leader_some doc (c.at + 1) i.spaced)
      ∙ ap (λ n. bind (solid_r n (drop n doc)) (λ t. below_r (open_string_tree c.at t) col)) (sym i.from))

  module _ (g : Skip) (x : TextAt doc (a) g) where
    pub led_bad : (parent p : ℕ) (R T : List ℕ) → g ≡ Err p
        → Blocks doc c parent (open_string_r col c.at (drop c.at doc)) (Err p) R R T T
    unfolding TextAt
    led_bad parent p R T z = not_block doc c parent _ R R T T p (led_is ∙ by (rw z at x))
      where
        by : Untexted doc (a) p → bind (solid_r (a) (drop (a) doc)) (λ t. below_r (open_string_tree c.at t) col) ≡ bad p
        by (no_text h) = ap (λ o. bind o (λ t. below_r (open_string_tree c.at t) col)) h
        by (no_feed v h k) = ap (λ o. bind o (λ t. below_r (open_string_tree c.at t) col)) h ∙ below_not (open_string_tree c.at v) doc col p k

    module _ (e : ℕ) (z : g ≡ Ok e) where
      texted : Texted doc (a) e
      unfolding TextAt
      texted = rw z at x

      pub led_ahead : a < e
      led_ahead = texted.ahead

      pub led_inside : e < length doc
      led_inside = texted.inside

      pub led_from : a ≤ e
      led_from = omega (arith, texted.ahead)

      pub led_in : e ≤ length doc
      led_in = omega (arith, texted.inside)

      pub led_small : (x : ℕ) → x ≡ spot c.text → x + e < ample
      led_small x h = let r = i.asked.ready in omega (arith, r.small, r.inside, r.few_text, texted.inside)

      -- the text word has room for the leader's text
      word : c.text < ample * ESCAPE
      word = let r = i.asked.ready in let h = word_is c.text in omega (arith, r.small, r.inside, r.few_text, r.few_escapes)

      pub led_more : c.text + (e - a) < 2 ^ 64
      led_more = omega (arith, word, i.asked.ready.small, texted.inside)

      pub led_more_one : c.text + (e - a) + 1 < 2 ^ 64
      led_more_one = omega (arith, word, i.asked.ready.small, texted.inside)

      -- where the leader's text ends
      led_spot : spot (c.text + (e - a) + 1) ≡ spot c.text + (e - a) + 1
      led_spot =
          let r = i.asked.ready in
          let h : c.text + (e - a) + 1 ≡ c.text + (e - a + 1) = omega arith in
          ap spot h ∙ (spot_plain c.text (e - a + 1) (omega (arith, r.small, r.few_text, r.inside, texted.inside)) ∙ omega arith)

      led_tally : tally (c.text + (e - a) + 1) ≡ tally c.text
      led_tally =
          let r = i.asked.ready in
          let h : c.text + (e - a) + 1 ≡ c.text + (e - a + 1) = omega arith in
          ap tally h ∙ tally_plain c.text (e - a + 1) (omega (arith, r.small, r.few_text, r.inside, texted.inside))

      pub led_begun : Begun doc c e (c.text + (e - (a)) + 1) col
      led_begun =
          record {
            ready = i.asked.ready;
            ahead = omega (arith, texted.ahead, i.from);
            inside = texted.inside;
            few = omega (arith, led_spot, texted.ahead, i.from, i.asked.ready.few_text);
            scant = omega (arith, led_tally, texted.ahead, i.from, i.asked.ready.few_escapes);
            low = i.asked.low;
          }

      pub led_block : (x parent : ℕ) (r : Block) (R R' T₀ T₁ T T' : List ℕ) → x ≡ spot c.text → T₁ ≡ sets T₀ x (slice (a) e doc)
          → T ≡ set T₁ (x + (e - (a))) 10
          → Furthers doc c parent STRING (body_r col (e + 1) (drop (e + 1) doc)) (body_end e) (λ ls. unescaped (body_text ls)) (e + 1) (c.text + (e - (a)) + 1) r R R' T T'
          → Blocks doc c parent (open_string_r col c.at (drop c.at doc)) r R R' T₀ T'
      led_block x parent r R R' T₀ T₁ T T' sx s s' f =
          let t : List ℕ = slice (a) e doc in
          let n : length t ≡ e - (a) = length-slice (a) e doc (let k = texted.inside in omega arith) in
          let m : length (t ++ 10 ∷ []) ≡ length t + 1 = length-append t (10 ∷ []) in
          block_of
          doc
          c
          parent
          STRING
          (body_r col (e + 1) (drop (e + 1) doc))
          (body_end e)
          (λ ls. unescaped (body_text ls))
          (e + 1)
          (c.text + (e - (a)) + 1)
          r
          R
          R'
          T₀
          T
          T'
          (open_string_r col c.at (drop c.at doc))
          (unescaped (t ++ 10 ∷ []))
          i.asked.ready
          (led_is
          ∙ (ap (λ o. bind o (λ t. below_r (open_string_tree c.at t) col)) texted.is
          ∙ (below_is (open_string_tree c.at t) doc col e texted.feed
          ∙ fmap_same
          (open_string_tree c.at t e)
          (λ ls. leaf STRING c.at (body_end e ls) (unescaped ((t ++ 10 ∷ []) ++ body_text ls)))
          (body_r col (e + 1) (drop (e + 1) doc))
          (λ ls. ap (λ s. leaf STRING c.at (body_end e ls) (unescaped s)) (sym (append_assoc t (10 ∷ []) (body_text ls)))))))
          (lit< tt)
          (rw sx at (s' ∙ (ap (λ l. set l (x + (e - (a))) 10) s ∙ (ap (λ j. set (sets T₀ x t) (x + j) 10) (sym n) ∙ sym (sets_append T₀ x t (10 ∷ []))))))
          (omega arith)
          (omega (arith, texted.ahead, i.from))
          (omega (arith, texted.ahead, i.from))
          f

pub ruleset led_strings = (led_bad, led_ahead, led_inside, led_begun, led_block, led_from, led_in, led_small, led_more, led_more_one, rules)

-- ---- a leader with another byte behind the grave
module _ (doc : List ℕ) (c : Cursor) (col : ℕ) (i : Asked doc c 96 col) (a : Ans) (t : Takes doc c 96 a) (n : Cursor) (z : a ≡ Ok n) where
  next : n ≡ onward c 1
  next = take_next doc c 96 a t n z

  place : n.at ≡ c.at + 1
  place = ap (λ (q : Cursor). q.at) next

  begun : 10 ≡ peek doc n.at → (x : ℕ) → x ≤ 1 → Begun doc c n.at (c.text + x) col
  begun f x l =
      let r = i.ready in
      let b : spot c.text + x < ESCAPE = omega (arith, r.small, r.few_text, r.inside) in
      let p = spot_plain c.text x b in
      let q = tally_plain c.text x b in
      record { ready = i.ready; ahead = omega (arith, place); inside = peek_in doc n.at 10 f (omega arith); few = omega (arith, r.few_text, place); scant = omega (arith, r.few_escapes, place); low = i.low }

  open_bare : (peek doc n.at ≡ 32 → ⊥) → open_string_r col c.at (drop c.at doc) ≡ below_r (open_string_tree c.at []) col n.at (drop n.at doc)
  open_bare h =
      open_is doc col c.at i.first
      ∙ (ap (λ q. open_string_rest_r col c.at q (drop q doc)) (sym place) ∙ ap (λ o. bind o (λ t. below_r (open_string_tree c.at t) col)) (leader_none doc n.at h))

  property_bare : property_string_r col c.at (drop c.at doc) ≡ below_r (property_string_tree c.at) col n.at (drop n.at doc)
  property_bare = property_is doc col c.at i.first ∙ ap (λ q. below_r (property_string_tree c.at) col q (drop q doc)) (sym place)

  module _ (s : Step) (y : Stepped doc n s) where
    pub open_over : s ≡ None → (parent : ℕ) (R T : List ℕ) → Blocks doc c parent (open_string_r col c.at (drop c.at doc)) (Err n.at) R R T T
    open_over w parent R T =
        let e = step_over doc n s y w in
        not_block doc c parent _ R R T T n.at (open_bare (λ q. omega arith) ∙ below_not (open_string_tree c.at []) doc col n.at (λ q. omega arith))

    module _ (b : ℕ) (m : Cursor) (w : s ≡ Some (b, m)) where
      byte : b ≡ peek doc n.at
      byte = step_byte doc n s y b m w

      pub open_led : b ≡ 32 → Led doc c col m.at
      open_led h =
          let l = step_inside doc n s y b m w in
          record {
            asked = i;
            spaced = ap (peek doc) (sym place) ∙ (sym byte ∙ h);
            inside = omega (arith, place);
            from = ap (λ (q : Cursor). q.at) (step_next doc n s y b m w) ∙ ap (◌+ 1) place;
          }

      pub open_one : c.text + 1 < 2 ^ 64
      open_one = let r = i.ready in let h = word_is c.text in omega (arith, r.small, r.inside, r.few_text, r.few_escapes)

      pub open_begun : b ≡ 10 → Begun doc c n.at (c.text + 1) col
      open_begun h = begun (sym h ∙ byte) 1 (omega arith)

      pub open_bad : (b ≡ 32 → ⊥) → (b ≡ 10 → ⊥) → (parent : ℕ) (R T : List ℕ) → Blocks doc c parent (open_string_r col c.at (drop c.at doc)) (Err n.at) R R T T
      open_bad h k parent R T =
          not_block doc c parent _ R R T T n.at (open_bare (λ q. h (byte ∙ q)) ∙ below_not (open_string_tree c.at []) doc col n.at (λ q. k (byte ∙ q)))

      pub open_block : b ≡ 10 → (x parent : ℕ) (r : Block) (R R' T₀ T T' : List ℕ) → x ≡ spot c.text → T ≡ set T₀ x 10
          → Furthers doc c parent STRING (body_r col (n.at + 1) (drop (n.at + 1) doc)) (body_end n.at) (λ ls. unescaped (body_text ls)) (n.at + 1) (c.text + 1) r R R' T T'
          → Blocks doc c parent (open_string_r col c.at (drop c.at doc)) r R R' T₀ T'
      open_block h x parent r R R' T₀ T T' sx e f =
          block_of doc c parent STRING _ (body_end n.at) (λ ls. unescaped (body_text ls)) (n.at + 1) (c.text + 1) r R R' T₀ T T' _ (unescaped (10 ∷ []))
          i.ready
          (open_bare (λ q. let k = byte ∙ q in omega arith) ∙ below_is (open_string_tree c.at []) doc col n.at (sym byte ∙ h))
          (lit< tt)
          (rw sx at e)
          (omega arith)
          (omega (arith, place))
          (omega (arith, place))
          f

  module _ (g : Ans) (y : Takes doc n 10 g) where
    pub property_bad : (p : ℕ) → g ≡ Err p → (parent : ℕ) (R T : List ℕ) → Blocks doc c parent (property_string_r col c.at (drop c.at doc)) (Err p) R R T T
    property_bad p w parent R T =
        not_block doc c parent _ R R T T p
        (property_bare ∙ (below_not (property_string_tree c.at) doc col n.at (take_other doc n 10 g y p w) ∙ ap bad (sym (take_place doc n 10 g y p w))))

    module _ (m : Cursor) (w : g ≡ Ok m) where
      pub property_begun : Begun doc c n.at c.text col
      property_begun = let z : c.text + 0 ≡ c.text = omega arith in rw z at (begun (take_byte doc n 10 g y m w) 0 (omega arith))

      pub property_block : (parent : ℕ) (r : Block) (R R' T T' : List ℕ)
          → Furthers doc c parent STRING (body_r col (n.at + 1) (drop (n.at + 1) doc)) (body_end n.at) (λ ls. unescaped (body_text ls)) (n.at + 1) c.text r R R' T T'
          → Blocks doc c parent (property_string_r col c.at (drop c.at doc)) r R R' T T'
      property_block parent r R R' T T' f =
          block_of doc c parent STRING _ (body_end n.at) (λ ls. unescaped (body_text ls)) (n.at + 1) c.text r R R' T T T' _ (unescaped [])
          i.ready
          (property_bare ∙ below_is (property_string_tree c.at) doc col n.at (sym (take_byte doc n 10 g y m w)))
          (lit< tt)
          refl
          (omega arith)
          (omega (arith, place))
          (omega (arith, place))
          f

pub ruleset open_strings = (not_led, open_over, open_led, open_begun, open_bad, open_one, open_block, rules)

pub ruleset property_strings = (not_led, property_bad, property_begun, property_block, rules)
