-- A WALK OVER THE MEMBERS OF A CONTAINER (`Passed`): those passed stand in its rows, and whatever members its rows hold begin with them. Assumes nothing.
use Rattle.std.specs.Prelude.{◌≡◌, refl, List, Bool, ℕ, ◌+◌, ◌≤◌, ◌<◌}
use Rattle.std.proofs.Common.{subst₂, ◌∙◌}
use Rattle.std.proofs.Math.Path.{ap, subst}
use native.Mathlib.Omega.{arith}
use Rattle.std.proofs.Math.ListN.{length, length-append}
use Rattle.language.specs.Tree.{Tree, Forest, none, more, size, sizes, text_of, texts_of}
use Rattle.language.specs.Lent.{bytes_in}
use Rattle.shaped.specs.RowsAt.{RowsAt, ForestAt, leaf_row, none_at, first_at, rest_at}
use Rattle.shaped.specs.Bare.{alike_size, alike_text}
use Rattle.shaped.specs.Told.{rows_tell}
use Rattle.shaped.specs.Beside.{beside, beside_size, beside_text, beside_at, beside_left, beside_right}
use Rattle.std.specs.declared.option.Option.TheVariants.{None}
use Rattle.sound.specs.Members.{Sane, IsKey, is_a_key, Member, pair, element, Many, many_none, many_more, many_last, some_member}
use Rattle.sound.specs.Tested.{Stand, Tests}

-- as many rows and text bytes
pub record Even (ts us : Forest) : Type 0 where
  pub rows : sizes ts ≡ sizes us
  pub bytes : length (texts_of ts) ≡ length (texts_of us)

module _ (table text : List ℕ) where
  -- two keys at one place are equally long, and two values have as many rows and text bytes
  pub record Level (t u : Tree) : Type 0 where
    pub rows : size t ≡ size u
    pub bytes : length (text_of t) ≡ length (text_of u)

  pub key_level : {r p x : ℕ} {t u : Tree} → IsKey t → IsKey u → RowsAt table text r p x t → RowsAt table text r p x u → Level t u
  unfolding size text_of
  key_level (is_a_key s) (is_a_key z) h g =
      let a = (leaf_row table text h).to_is in
      let b = (leaf_row table text g).to_is in
      record { rows = refl; bytes = omega arith }

  value_level : {r p x k l : ℕ} {t u : Tree} → Sane k t → Sane l u → RowsAt table text r p x t → RowsAt table text r p x u → Level t u
  value_level {t = t} {u = u} x y h g =
      let a = rows_tell table text x.shaped y.shaped h g in
      record { rows = alike_size t u a; bytes = ap length (alike_text t u a) }

  pub moved : {r r' p x x' : ℕ} {ts : Forest} → r ≡ r' → x ≡ x' → ForestAt table text r p x ts → ForestAt table text r' p x' ts
  moved {p = p} {ts = ts} e f h = subst₂ (λ (i j : ℕ). ForestAt table text i p j ts) e f h

  -- MEMBERS AT ONE PLACE have as many rows and text bytes
  pub members_even : {o : Bool} {r p x k l : ℕ} {ts us : Forest} → Member o k ts → Member o l us → ForestAt table text r p x ts → ForestAt table text r p x us → Even ts us
  unfolding sizes texts_of
  members_even {r = r} {x = x} (pair {t = t} {v = v} a b) (pair {t = t'} {v = v'} c d) h g =
      let i = key_level a c (first_at table text h) (first_at table text g) in
      let m : ForestAt table text (r + size t) _ (x + length (text_of t)) (more v' none) = moved (omega (arith, i.rows)) (omega (arith, i.bytes)) (rest_at table text g) in
      let j = value_level b d (first_at table text (rest_at table text h)) (first_at table text m) in
      record {
        rows = omega (arith, i.rows, j.rows);
        bytes = simp length-append (omega (arith, i.bytes, j.bytes));
      }
  members_even (element {t = t} a) (element {t = u} b) h g =
      let i = value_level a b (first_at table text h) (first_at table text g) in
      record { rows = omega (arith, i.rows); bytes = simp length-append (omega (arith, i.bytes)) }

  module _ (o : Bool) (k p r x end : ℕ) where
    -- the members that are left, of m in all, where n are passed
    pub record Rest (at y n m : ℕ) : Type 0 where
      pub others : ℕ
      pub members : Forest
      pub many : Many (Member o k) others members
      pub stand : ForestAt table text at p y members
      pub count : m ≡ n + others
      pub total : at + sizes members ≡ end

    -- whatever members the rows hold, m in all, begin with those passed
    abbrev pub Only : ℕ → ℕ → ℕ → Type 0
    Only at y n = (m : ℕ) (ts : Forest) → Many (Member o k) m ts → ForestAt table text r p x ts → r + sizes ts ≡ end → Rest at y n m

    -- n members of the container at row p stand from row r up to `at`, and their text from x up to y
    pub record Passed (at y n : ℕ) : Type 0 where
      pub front : Forest
      pub many : Many (Member o k) n front
      pub stand : ForestAt table text r p x front
      pub row : at ≡ r + sizes front
      pub place : y ≡ x + length (texts_of front)
      pub inside : at ≤ end
      pub only : Only at y n

    pub passed_none : x ≤ bytes_in text → r ≤ end → Passed r x 0
    unfolding sizes texts_of
    passed_none h l =
        record {
          front = none;
          many = many_none;
          stand = none_at table text h;
          row = omega arith;
          place = omega arith;
          inside = l;
          only = λ m ts a b c. record { others = m; members = ts; many = a; stand = b; count = omega arith; total = c };
        }

    module _ (at y n : ℕ) (w : Passed at y n) (l : at < end) where
      -- one member more
      module _ (at' y' : ℕ) (s : Stand table text (Member o k) end at p y at' y') where
        step : {m : ℕ} → Rest at y n m → Rest at' y' (n + 1) m
        unfolding sizes
        step {m} z = by z.others z.members z.many z.stand z.count z.total
          where
            by : (j : ℕ) (us : Forest) → Many (Member o k) j us → ForestAt table text at p y us → m ≡ n + j → at + sizes us ≡ end → Rest at' y' (n + 1) m
            by j us many_none h c t = absurd (omega arith)
            by j us (many_more {n = i} {ts = fs} {us = vs} q a e) h c t =
                let g : ForestAt table text at p y (beside fs vs) = subst (ForestAt table text at p y) e h in
                let v = members_even s.good q s.at (beside_left table text fs vs g) in
                let b = beside_right table text fs vs g in
                record {
                  others = i;
                  members = vs;
                  many = a;
                  stand = moved (omega (arith, v.rows, s.next)) (omega (arith, v.bytes, s.end)) b;
                  count = omega arith;
                  total = omega (arith, v.rows, s.next, ap sizes e, beside_size fs vs);
                }

        pub passed_more : Passed at' y' (n + 1)
        passed_more =
            let f = w.front in
            let g = s.members in
            let b = ap length (beside_text f g) ∙ length-append (texts_of f) (texts_of g) in
            record {
              front = beside f g;
              many = many_last w.many s.good;
              stand = beside_at table text f g w.stand (moved w.row w.place s.at);
              row = omega (arith, beside_size f g, w.row, s.next);
              place = omega (arith, b, w.place, s.end);
              inside = s.below;
              only = λ m ts a c d. step (w.only m ts a c d);
            }

      -- no member stands here: so the rows hold none in all
      pub passed_bad : Tests table text (Member o k) end at p y None → (m : ℕ) (ts : Forest) → Many (Member o k) m ts → ForestAt table text r p x ts → r + sizes ts ≡ end → ⊥
      unfolding sizes
      passed_bad f m ts a c d = by z.members z.many z.stand z.total
        where
          z : Rest at y n m
          z = w.only m ts a c d

          by : {j : ℕ} (us : Forest) → Many (Member o k) j us → ForestAt table text at p y us → at + sizes us ≡ end → ⊥
          by us many_none h t = omega arith
          by us (many_more {ts = fs} {us = vs} q b e) h t =
              f fs q (beside_left table text fs vs (subst (ForestAt table text at p y) e h)) (omega (arith, ap sizes e, beside_size fs vs))

    -- all are passed: any other count is wrong
    pub passed_count : (at y n : ℕ) → Passed at y n → end ≤ at → (m : ℕ) (ts : Forest) → Many (Member o k) m ts → ForestAt table text r p x ts → r + sizes ts ≡ end → m ≡ n
    unfolding sizes
    passed_count at y n w l m ts a c d = by z.others z.members z.many z.count z.total
      where
        z : Rest at y n m
        z = w.only m ts a c d

        by : (j : ℕ) (us : Forest) → Many (Member o k) j us → m ≡ n + j → at + sizes us ≡ end → m ≡ n
        by j us many_none e t = omega arith
        by j us (many_more {ts = fs} {us = vs} q b g) e t = absurd (omega (arith, some_member q, ap sizes g, beside_size fs vs))
