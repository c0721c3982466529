-- HOW MANY BYTES THE FIELDS OF ROWS HAVE: what the code that counts them asks, and how it keeps its promise. Assumes nothing.
use Rattle.std.specs.Prelude.{◌≡◌, List, ℕ, ◌+◌, ◌-◌, ◌*◌, ◌/◌, ◌≤◌, ◌<◌, get_or}
use Rattle.std.proofs.Math.Path.{refl, ap, subst}
use Rattle.std.proofs.Common.{sym, ◌∙◌, arith}
use Rattle.std.proofs.Math.ListN.{length}
use Rattle.std.proofs.Math.Seq.{length-slice}
use Rattle.language.specs.Tree.{Tree, Forest, none, more, width}
use Rattle.language.specs.Lent.{lent}
use Rattle.shaped.specs.RowsAt.{next_at}
use Rattle.stored.specs.Form.{widest, tag, content, forms, form}
use Rattle.stored.proofs.PartsLaws.{cut_length}
use Rattle.stored.proofs.LengthsLaws.{forms_length}
use Rattle.fields.specs.Rows.{Kept, Kepts, size_some, sizes_some, At, Along, word_in, kind_word}
use Rattle.fields.specs.Fields.{Opened, opened, Texted, texted, Turn, turn, Container, container_kind}

module _ (table : List ℕ) where
  -- ASKED of a row, and of rows one behind another: they are some tree's, with some text, and not too many bytes to be counted
  pub record Measured (r : ℕ) : Type 0 where
    pub text : List ℕ
    pub tree : Tree
    pub kept : Kept tree
    pub here : At table text r tree
    pub most : length (form tree) ≤ 8 * lent

  pub record MeasuredAll (from stop : ℕ) : Type 0 where
    pub text : List ℕ
    pub trees : Forest
    pub kept : Kepts trees
    pub here : Along table text from stop trees
    pub most : length (forms trees) ≤ 8 * lent

  -- ---- a field, by its content
  module _ {r : ℕ} (h : Measured r) where
    size_is : length (form h.tree) ≡ length (content h.tree) + 3 * ((length (content h.tree) - 1) / 65535 + 1)
    unfolding widest
    size_is = cut_length (tag h.tree) (content h.tree)

    pub measured_fewer : {t : ℕ} → t ≡ 3 * (get_or table (width * r + 6) 0 - r) + 1 → 3 * (get_or table (width * r + 6) 0 - r) < t
    measured_fewer z = omega arith

    module _ {n : ℕ} (f : (i : Measured r) → n ≡ length (content i.tree)) where
      pub measured_few : n ≤ 8 * lent
      measured_few = let e = f h in omega (arith, size_is, h.most)

      pub measured_form : {m : ℕ} → m ≡ 3 * ((n - 1) / 65535 + 1) → n + m ≡ length (form h.tree)
      measured_form {m} z =
          let e = f h in
          ap (λ i. n + i) z ∙ (ap (λ i. i + 3 * ((i - 1) / 65535 + 1)) e ∙ sym size_is)

    -- ---- a content
    pub measured_word : (i : ℕ) → i ≤ 8 → width * r + i < length table
    measured_word i l = word_in table h.text h.here i l

    module _ {kind : ℕ} (e : kind ≡ get_or table (width * r + 0) 0) where
      module _ {stop : ℕ} (l : 8 ≤ kind) (m : kind ≤ 9) (f : stop ≡ get_or table (width * r + 6) 0) where
        children : Opened table h.text r h.tree
        children = let k = kind_word table h.text h.here e in opened table h.text h.kept (omega arith) (omega arith) h.here

        measured_children : MeasuredAll (r + 1) stop
        measured_children =
            let o = children in
            record {
              text = h.text;
              trees = o.trees;
              kept = o.kept;
              here = subst (λ i. Along table h.text (r + 1) i o.trees) (sym f) o.here;
              most = omega (arith, h.most, size_is, ap length o.is);
            }

        measured_inside : {n : ℕ} → ((i : MeasuredAll (r + 1) stop) → n ≡ length (forms i.trees)) → n ≡ length (content h.tree)
        unfolding measured_children
        measured_inside g = g measured_children ∙ ap length (sym children.is)

      module _ {stop : ℕ} (f : stop ≡ get_or table (width * r + 6) 0) where
        pub measured_container : Container kind → MeasuredAll (r + 1) stop
        measured_container z = let b = container_kind z in measured_children b.0 b.1 f

        pub container_measured : {n : ℕ} (z : Container kind) → ((i : MeasuredAll (r + 1) stop) → n ≡ length (forms i.trees)) → n ≡ length (content h.tree)
        container_measured z g = let b = container_kind z in measured_inside b.0 b.1 f g

      module _ (a : kind ≡ 8 → ⊥) (b : kind ≡ 9 → ⊥) where
        told : Texted table h.text h.tree (get_or table (width * r + 3) 0) (get_or table (width * r + 4) 0)
        told =
            let k = kind_word table h.text h.here e in
            texted table h.text h.kept (λ z. a (k ∙ z)) (λ z. b (k ∙ z)) h.here

        module _ {from to : ℕ} (f : from ≡ get_or table (width * r + 3) 0) (g : to ≡ get_or table (width * r + 4) 0) where
          pub measured_rises : from ≤ to
          measured_rises = let q = told in omega (arith, q.rises)

          pub measured_text : to - from ≡ length (content h.tree)
          measured_text = let q = told in omega (arith, ap length q.is, length-slice (get_or table (width * r + 3) 0) (get_or table (width * r + 4) 0) h.text q.inside)

    pub measured_below : {stop t : ℕ} → t ≡ 3 * (get_or table (width * r + 6) 0 - r) → stop ≡ get_or table (width * r + 6) 0 → 3 * (stop - (r + 1)) + 2 < t
    measured_below z f = let k = next_at table h.text h.tree h.here.rows in omega (arith, size_some h.tree)

  -- ---- children's fields: so many bytes are counted, and these trees are left
  pub record Counted (text : List ℕ) (stop : ℕ) (ts : Forest) (at n : ℕ) : Type 0 where
    pub trees : Forest
    pub kept : Kepts trees
    pub here : Along table text at stop trees
    pub is : n + length (forms trees) ≡ length (forms ts)

  pub counted_start : {from stop : ℕ} (h : MeasuredAll from stop) → Counted h.text stop h.trees from 0
  counted_start h = record { trees = h.trees; kept = h.kept; here = h.here; is = omega arith }

  pub counted_end : {text : List ℕ} {stop at n : ℕ} {ts : Forest} → Counted text stop ts at n → stop ≤ at → n ≡ length (forms ts)
  unfolding content
  counted_end {text} {stop} {at} {n} {ts} h l = let z = by h.trees h.here in omega (arith, h.is)
    where
      by : (us : Forest) → Along table text at stop us → length (forms us) ≡ 0
      by none a = refl
      by (more t us) a = absurd (omega (arith, a.ends, sizes_some t us))

  module _ {text : List ℕ} {stop at n : ℕ} {ts : Forest} (most : length (forms ts) ≤ 8 * lent) (h : Counted text stop ts at n) (l : at < stop) where
    one : Turn table text at stop h.trees
    one = turn table text h.trees h.kept h.here l

    all_is : n + (length (form one.tree) + length (forms one.rest)) ≡ length (forms ts)
    all_is = let e = ap (λ us. length (forms us)) one.is in let f = forms_length one.tree one.rest in omega (arith, h.is)

    pub counted_field : Measured at
    counted_field = record { text = text; tree = one.tree; kept = one.kept; here = one.here; most = omega (arith, all_is) }

    pub counted_word : (i : ℕ) → i ≤ 8 → width * at + i < length table
    counted_word i m = word_in table text one.here i m

    pub counted_ahead : {k : ℕ} → k ≡ get_or table (width * at + 6) 0 → (at < k) × (k ≤ stop)
    counted_ahead e = let k = next_at table text one.tree one.here.rows in (omega (arith, size_some one.tree), omega (arith, one.behind.ends))

    pub counted_more : {m : ℕ} → ((i : Measured at) → m ≡ length (form i.tree)) → n + m ≤ 8 * lent
    unfolding counted_field
    counted_more p = let e = p counted_field in omega (arith, all_is)

    pub counted_again : {m next : ℕ} → ((i : Measured at) → m ≡ length (form i.tree)) → next ≡ get_or table (width * at + 6) 0 → Counted text stop ts next (n + m)
    unfolding counted_field
    counted_again p f =
        let e = p counted_field in
        record { trees = one.rest; kept = one.kepts; here = subst (λ i. Along table text i stop one.rest) (sym f) one.behind; is = omega (arith, all_is) }

pub ruleset measuring = (measured_fewer, measured_few, measured_form, measured_word, measured_container, container_measured, measured_rises, measured_text, measured_below)
