-- Where the open labels stand among the items, and what is kept of that when an item changes.
use Rattle.std.proofs.Common.{inl, inr, ◌≡◌, ◌<◌, ◌≤◌, ◌≢◌, ◌+◌, ◌^◌, ◌==◌, ℕ, suc, zero, true, false, List, [], ◌∷◌, ◌++◌, Option, Some, None, length, slice_index_or, slice_set, if◌then◌else◌, get_or-set_same, get_or-set_other, length-append, refl, sym, ap, subst, ◌∙◌, arith}
use Rattle.std.proofs.lemmas.Bool.{cases_eq, cases_lt, eq-eqb, ne_eqb}
use Rattle.std.proofs.lemmas.List.{get_or_append_left, get_or_at, get_or_default, length-set}
use Rattle.std.specs.BTreeMap.{is_at}
use Rattle.std.specs.Option.{option_map, IsSome, IsSomeAnd}
use Rattle.std.specs.Ordering.{nat_cmp}
use Rattle.script_lines.specs.declared.label.Label.{Label}
use Rattle.script_lines.specs.Labels.{LabelsView, label_in, replaced, without_label}
use Rattle.script_lines.specs.Places.{somes, item_at, LabelsAreKept}

-- ---- one place

-- a place with a label is one of the items'
pub is_within : (items : List (Option Label)) (place : ℕ) (x : Label) → item_at items place ≡ Some x → place < length items
is_within [] place x is = absurd (cc is)
is_within (item ∷ items) zero x is = omega arith
is_within (item ∷ items) (suc place) x is = let rest = is_within items place x is in omega arith

-- no other place has a label of this name
abbrev pub IsOnly : List (Option Label) → ℕ → ℕ → Type 0
IsOnly items label place = (other : ℕ) (y : Label) → item_at items other ≡ Some y → y.label ≡ label → other ≡ place

-- what the label at a place is among those that are open, and what they are when the place changes
pub record StandsAt (items : List (Option Label)) (label place : ℕ) (x : Label) : Type 0 where
  pub found : label_in (somes items) label ≡ Some x
  pub replaced_is : (y : Label) → y.label ≡ label → replaced y (somes items) ≡ somes (slice_set items place (Some y))
  pub without_is : without_label label (somes items) ≡ somes (slice_set items place None)

pub stands_at : (items : List (Option Label)) (label place : ℕ) (x : Label) → item_at items place ≡ Some x → x.label ≡ label
    → IsOnly items label place → StandsAt items label place x
stands_at [] label place x is named only = absurd (cc is)
stands_at (None ∷ items) label zero x is named only = absurd (cc is)
stands_at (None ∷ items) label (suc place) x is named only =
    let rest = stands_at items label place x is named (λ other y y_is y_named. let e = only (suc other) y y_is y_named in omega arith) in
    record { found = rest.found; replaced_is = rest.replaced_is; without_is = rest.without_is }
stands_at (Some y ∷ items) label zero x is named only =
    let same : y ≡ x = cc is in
    let y_named : y.label ≡ label = ap (λ (z : Label). z.label) same ∙ named in
    let e : (y.label == label) ≡ true = eq-eqb y.label label y_named in
    record {
      found = rw e is;
      replaced_is = λ z z_named. let e2 : (y.label == z.label) ≡ true = eq-eqb y.label z.label (y_named ∙ sym z_named) in rw e2 refl;
      without_is = rw e refl;
    }
stands_at (Some y ∷ items) label (suc place) x is named only =
    let apart : y.label ≡ label → ⊥ = λ h. let e = only zero y refl h in absurd (omega arith) in
    let e : (y.label == label) ≡ false = ne_eqb y.label label apart in
    let rest = stands_at items label place x is named (λ other z z_is z_named. let e = only (suc other) z z_is z_named in omega arith) in
    record {
      found = rw e rest.found;
      replaced_is = λ z z_named.
          let e2 : (y.label == z.label) ≡ false = ne_eqb y.label z.label (λ h. apart (h ∙ z_named)) in
          rw e2 (ap (λ (l : List Label). y ∷ l) (rest.replaced_is z z_named));
      without_is = rw e (ap (λ (l : List Label). y ∷ l) rest.without_is);
    }

-- a label that stands at no place isn't open
pub absent : (items : List (Option Label)) (label : ℕ) → ((place : ℕ) (y : Label) → item_at items place ≡ Some y → y.label ≡ label → ⊥)
    → label_in (somes items) label ≡ None
absent [] label none = refl
absent (None ∷ items) label none = absent items label (λ place. none (suc place))
absent (Some x ∷ items) label none =
    let e : (x.label == label) ≡ false = ne_eqb x.label label (none zero x refl) in
    rw e (absent items label (λ place. none (suc place)))

-- ---- the open labels of a list of items

pub somes-push : (items : List (Option Label)) (x : Label) → somes (items ++ Some x ∷ []) ≡ somes items ++ x ∷ []
somes-push [] x = refl
somes-push (None ∷ items) x = somes-push items x
somes-push (Some y ∷ items) x = ap (λ (l : List Label). y ∷ l) (somes-push items x)

pub somes-none : (items : List (Option Label)) → ((place : ℕ) → place < length items → item_at items place ≡ None) → somes items ≡ []
somes-none [] none = refl
somes-none (None ∷ items) none = somes-none items (λ place below. none (suc place) (omega arith))
somes-none (Some x ∷ items) none = absurd (cc (none zero (omega arith)))

-- the first open label is the one at the first place that has one
pub somes-first : (items : List (Option Label)) (place : ℕ) (x : Label) → item_at items place ≡ Some x
    → ((other : ℕ) → other < place → item_at items other ≡ None) → somes items ≡ x ∷ somes (slice_set items place None)
somes-first [] place x is none = absurd (cc is)
somes-first (None ∷ items) zero x is none = absurd (cc is)
somes-first (None ∷ items) (suc place) x is none = somes-first items place x is (λ other below. none (suc other) (omega arith))
somes-first (Some y ∷ items) zero x is none =
    let same : y ≡ x = cc is in
    ap (λ (z : Label). z ∷ somes items) same
somes-first (Some y ∷ items) (suc place) x is none = absurd (cc (none zero (omega arith)))

-- an open label stands at some place
pub is_somewhere : (items : List (Option Label)) (before after : List Label) (x : Label) → somes items ≡ before ++ x ∷ after
    → (place : ℕ) × (item_at items place ≡ Some x)
is_somewhere [] [] after x is = absurd (cc is)
is_somewhere [] (b ∷ before) after x is = absurd (cc is)
is_somewhere (None ∷ items) before after x is = let rest = is_somewhere items before after x is in (suc rest.0, rest.1)
is_somewhere (Some y ∷ items) [] after x is = let same : y ≡ x = cc is in (zero, ap (λ (z : Label). Some z) same)
is_somewhere (Some y ∷ items) (b ∷ before) after x is =
    let same : somes items ≡ before ++ x ∷ after = cc is in
    let rest = is_somewhere items before after x same in (suc rest.0, rest.1)

-- ---- the clients of the open labels

-- a map's test of a key
at_key : (a b : ℕ) → is_at (nat_cmp a) b ≡ (a == b)
at_key a b = grind arith

some_same : (a b : ℕ) → ◌≡◌ {A = Option ℕ} (Some a) (Some b) → a ≡ b
some_same a b e = cc e

some_none : (a : ℕ) → ◌≡◌ {A = Option ℕ} (Some a) None → ⊥
some_none a e = cc e

label_none : (x : Label) → ◌≡◌ {A = Option Label} (Some x) None → ⊥
label_none x e = cc e

pub label_same : (x y : Label) → ◌≡◌ {A = Option Label} (Some x) (Some y) → x ≡ y
label_same x y e = cc e

-- no labels
pub kept_none : (clients : ℕ → Option ℕ) → ((q : ℕ) → clients q ≡ None) → LabelsAreKept [] 0 clients
kept_none clients none = record {
  client = λ place x is. absurd (label_none x (sym is));
  mapped = λ place x is. absurd (label_none x (sym is));
  there = λ label place is. absurd (some_none place (sym is ∙ none label));
  closed = λ place below. refl;
  within = omega arith;
  few = omega arith;
}

module _ (items : List (Option Label)) (first : ℕ) (clients : ℕ → Option ℕ) (kept : LabelsAreKept items first clients) where
  only_at : (label place : ℕ) → clients label ≡ Some place → IsOnly items label place
  only_at label place is =
      λ other y y_is y_named. some_same other place (sym (kept.mapped other y y_is) ∙ ap clients y_named ∙ is)

  -- all that is known of the place of an open label
  pub record Stands (label place : ℕ) : Type 0 where
    pub x : Label
    pub is : item_at items place ≡ Some x
    pub named : x.label ≡ label
    pub client_is : x.client ≡ place
    pub inside : place < length items
    pub at : StandsAt items label place x

  pub stands : (label place : ℕ) → clients label ≡ Some place → Stands label place
  stands label place is =
      let there = kept.there label place is in
      record {
        x = there.x;
        is = there.is;
        named = there.named;
        client_is = kept.client place there.x there.is;
        inside = is_within items place there.x there.is;
        at = stands_at items label place there.x there.is there.named (only_at label place is);
      }

  client_by : (label : ℕ) (answer : Option ℕ) → clients label ≡ answer → answer ≡ option_map (λ x. x.client) (label_in (somes items) label)
  client_by label None is =
      let none = absent items label (λ place y y_is y_named. some_none place (sym (kept.mapped place y y_is) ∙ ap clients y_named ∙ is)) in
      rw none refl
  client_by label (Some place) is =
      let s = stands label place is in
      rw s.at.found (ap (λ (n : ℕ). Some n) (sym s.client_is))

  -- the map knows the client of each open label, and no other
  pub client_of : (label : ℕ) → clients label ≡ option_map (λ x. x.client) (label_in (somes items) label)
  client_of label = client_by label (clients label) refl

  -- ---- what is kept

  -- an open label becomes another of its name and client
  pub kept_changed : (label place : ℕ) (y : Label) → clients label ≡ Some place → y.label ≡ label → y.client ≡ place
      → LabelsAreKept (slice_set items place (Some y)) first clients
  kept_changed label place y is named client =
      let s = stands label place is in
      let here : item_at (slice_set items place (Some y)) place ≡ Some y = get_or-set_same items place (Some y) None s.inside in
      let len : length (slice_set items place (Some y)) ≡ length items = length-set items place (Some y) in
      record {
        client = λ other z z_is. elim (cases_eq other place) [
          | inl same ↦
              let e : z ≡ y = label_same z y (sym z_is ∙ ap (item_at (slice_set items place (Some y))) same ∙ here) in
              ap (λ (v : Label). v.client) e ∙ client ∙ sym same
          | inr apart ↦ kept.client other z (sym (get_or-set_other items place other (Some y) None apart) ∙ z_is)
        ];
        mapped = λ other z z_is. elim (cases_eq other place) [
          | inl same ↦
              let e : z ≡ y = label_same z y (sym z_is ∙ ap (item_at (slice_set items place (Some y))) same ∙ here) in
              ap (λ (v : Label). clients v.label) e ∙ ap clients named ∙ is ∙ ap (λ (n : ℕ). Some n) (sym same)
          | inr apart ↦ kept.mapped other z (sym (get_or-set_other items place other (Some y) None apart) ∙ z_is)
        ];
        there = λ l p p_is.
            let t = kept.there l p p_is in
            elim (cases_eq p place) [
              | inl same ↦
                  let e : t.x ≡ s.x = label_same t.x s.x (sym t.is ∙ ap (item_at items) same ∙ s.is) in
                  record {
                    x = y;
                    is = ap (item_at (slice_set items place (Some y))) same ∙ here;
                    named = named ∙ sym s.named ∙ ap (λ (v : Label). v.label) (sym e) ∙ t.named;
                  }
              | inr apart ↦ record { x = t.x; is = get_or-set_other items place p (Some y) None apart ∙ t.is; named = t.named }
            ];
        closed = λ p below.
            let apart : p ≢ place = λ same. label_none s.x (sym s.is ∙ sym (ap (item_at items) same) ∙ kept.closed p below) in
            get_or-set_other items place p (Some y) None apart ∙ kept.closed p below;
        within = let w = kept.within in omega arith;
        few = let f = kept.few in omega arith;
      }

  -- an open label is closed
  pub kept_closed : (label place : ℕ) (after : ℕ → Option ℕ) → clients label ≡ Some place
      → ((q : ℕ) → after q ≡ (if is_at (nat_cmp label) q then None else clients q)) → LabelsAreKept (slice_set items place None) first after
  kept_closed label place after is says =
      let s = stands label place is in
      let here : item_at (slice_set items place None) place ≡ None = get_or-set_same items place None None s.inside in
      let len : length (slice_set items place None) ≡ length items = length-set items place None in
      let told : (q : ℕ) → after q ≡ (if label == q then None else clients q) = λ q. rw (at_key label q) at (says q) in
      let was : (other : ℕ) (z : Label) → item_at (slice_set items place None) other ≡ Some z → (other ≢ place) × (item_at items other ≡ Some z) = λ other z z_is.
      let apart : other ≢ place = λ same. label_none z (sym z_is ∙ ap (item_at (slice_set items place None)) same ∙ here) in
      (apart, sym (get_or-set_other items place other None None apart) ∙ z_is) in
      record {
        client = λ other z z_is. kept.client other z (was other z z_is).1;
        mapped = λ other z z_is.
            let w = was other z z_is in
            let m = kept.mapped other z w.1 in
            let e = ne_eqb label z.label (λ same. w.0 (some_same other place (sym m ∙ sym (ap clients same) ∙ is))) in
            let t : after z.label ≡ clients z.label = rw e at (told z.label) in
            t ∙ m;
        there = λ l p p_is. elim (cases_eq label l) [
          | inl same ↦
              let e = eq-eqb label l same in
              let t : after l ≡ None = rw e at (told l) in
              absurd (some_none p (sym p_is ∙ t))
          | inr other ↦
              let e = ne_eqb label l other in
              let t : after l ≡ clients l = rw e at (told l) in
              let h = kept.there l p (sym t ∙ p_is) in
              let apart : p ≢ place = λ same.
              let v : h.x ≡ s.x = label_same h.x s.x (sym h.is ∙ ap (item_at items) same ∙ s.is) in
              other (sym s.named ∙ ap (λ (v : Label). v.label) (sym v) ∙ h.named) in
              record { x = h.x; is = get_or-set_other items place p None None apart ∙ h.is; named = h.named }
        ];
        closed = λ p below. elim (cases_eq p place) [
          | inl same ↦ ap (item_at (slice_set items place None)) same ∙ here
          | inr apart ↦ get_or-set_other items place p None None apart ∙ kept.closed p below
        ];
        within = let w = kept.within in omega arith;
        few = let f = kept.few in omega arith;
      }

  -- one more label is open, which wasn't
  pub kept_opened : (y : Label) (after : ℕ → Option ℕ) → y.client ≡ length items → clients y.label ≡ None → length items < 2 ^ 32
      → ((q : ℕ) → after q ≡ (if is_at (nat_cmp y.label) q then Some (length items) else clients q)) → LabelsAreKept (items ++ Some y ∷ []) first after
  kept_opened y after client fresh few says =
      let more : List (Option Label) = items ++ Some y ∷ [] in
      let here : item_at more (length items) ≡ Some y = get_or_at items (Some y) [] None (length items) refl in
      let len : length more ≡ length items + 1 = omega (arith, length-append items (Some y ∷ [])) in
      let told : (q : ℕ) → after q ≡ (if y.label == q then Some (length items) else clients q) = λ q. rw (at_key y.label q) at (says q) in
      let left : (p : ℕ) → p < length items → item_at more p ≡ item_at items p = λ p below. get_or_append_left items (Some y ∷ []) None p below in
      let last : (p : ℕ) (z : Label) → item_at more p ≡ Some z → length items ≤ p → (p ≡ length items) × (z ≡ y) = λ p z z_is above.
      let w = is_within more p z z_is in
      let same : p ≡ length items = omega arith in
      (same, label_same z y (sym z_is ∙ ap (item_at more) same ∙ here)) in
      record {
        client = λ p z z_is. elim (cases_lt p (length items)) [
          | inl below ↦ kept.client p z (sym (left p below) ∙ z_is)
          | inr above ↦ let l = last p z z_is above in ap (λ (v : Label). v.client) l.1 ∙ client ∙ sym l.0
        ];
        mapped = λ p z z_is. elim (cases_lt p (length items)) [
          | inl below ↦
              let m = kept.mapped p z (sym (left p below) ∙ z_is) in
              let e = ne_eqb y.label z.label (λ same. some_none p (sym m ∙ sym (ap clients same) ∙ fresh)) in
              let t : after z.label ≡ clients z.label = rw e at (told z.label) in
              t ∙ m
          | inr above ↦
              let l = last p z z_is above in
              let e = eq-eqb y.label y.label refl in
              let t : after y.label ≡ Some (length items) = rw e at (told y.label) in
              ap (λ (v : Label). after v.label) l.1 ∙ t ∙ ap (λ (n : ℕ). Some n) (sym l.0)
        ];
        there = λ l p p_is. elim (cases_eq y.label l) [
          | inl same ↦
              let e = eq-eqb y.label l same in
              let t : after l ≡ Some (length items) = rw e at (told l) in
              let at : length items ≡ p = some_same (length items) p (sym t ∙ p_is) in
              record { x = y; is = sym (ap (item_at more) at) ∙ here; named = same }
          | inr other ↦
              let e = ne_eqb y.label l other in
              let t : after l ≡ clients l = rw e at (told l) in
              let h = kept.there l p (sym t ∙ p_is) in
              record { x = h.x; is = left p (is_within items p h.x h.is) ∙ h.is; named = h.named }
        ];
        closed = λ p below. let w = kept.within in left p (omega arith) ∙ kept.closed p below;
        within = let w = kept.within in omega arith;
        few = omega arith;
      }

-- the last label, which is open, is taken back
pub kept_taken_back : (items : List (Option Label)) (y : Label) (first : ℕ) (clients after : ℕ → Option ℕ) → LabelsAreKept (items ++ Some y ∷ []) first clients
    → ((q : ℕ) → after q ≡ (if is_at (nat_cmp y.label) q then None else clients q)) → LabelsAreKept items first after
kept_taken_back items y first clients after kept says =
    let more : List (Option Label) = items ++ Some y ∷ [] in
    let here : item_at more (length items) ≡ Some y = get_or_at items (Some y) [] None (length items) refl in
    let len : length more ≡ length items + 1 = omega (arith, length-append items (Some y ∷ [])) in
    let told : (q : ℕ) → after q ≡ (if y.label == q then None else clients q) = λ q. rw (at_key y.label q) at (says q) in
    let left : (p : ℕ) → p < length items → item_at more p ≡ item_at items p = λ p below. get_or_append_left items (Some y ∷ []) None p below in
    let whole : (p : ℕ) (z : Label) → item_at items p ≡ Some z → item_at more p ≡ Some z = λ p z z_is. left p (is_within items p z z_is) ∙ z_is in
    record {
      client = λ p z z_is. kept.client p z (whole p z z_is);
      mapped = λ p z z_is.
          let m = kept.mapped p z (whole p z z_is) in
          let below = is_within items p z z_is in
          let e = ne_eqb y.label z.label (λ same.
          let at : length items ≡ p = some_same (length items) p (sym (kept.mapped (length items) y here) ∙ ap clients same ∙ m) in
          omega arith) in
          let t : after z.label ≡ clients z.label = rw e at (told z.label) in
          t ∙ m;
      there = λ l p p_is. elim (cases_eq y.label l) [
        | inl same ↦
            let e = eq-eqb y.label l same in
            let t : after l ≡ None = rw e at (told l) in
            absurd (some_none p (sym p_is ∙ t))
        | inr other ↦
            let e = ne_eqb y.label l other in
            let t : after l ≡ clients l = rw e at (told l) in
            let h = kept.there l p (sym t ∙ p_is) in
            elim (cases_lt p (length items)) [
              | inl below ↦ record { x = h.x; is = sym (left p below) ∙ h.is; named = h.named }
              | inr above ↦
                  let w = is_within more p h.x h.is in
                  let same : p ≡ length items = omega arith in
                  let v : h.x ≡ y = label_same h.x y (sym h.is ∙ ap (item_at more) same ∙ here) in
                  absurd (other (ap (λ (v : Label). v.label) (sym v) ∙ h.named))
            ]
      ];
      closed = λ p below. elim (cases_lt p (length items)) [
        | inl inside ↦ sym (left p inside) ∙ kept.closed p below
        | inr above ↦ absurd (let w = kept.within in label_none y (sym here ∙ kept.closed (length items) (omega arith)))
      ];
      within = elim (cases_lt (length items) first) [
        | inl passed ↦ absurd (label_none y (sym here ∙ kept.closed (length items) passed))
        | inr above ↦ above
      ];
      few = let f = kept.few in omega arith;
    }

-- ---- the open labels as they are seen

abbrev pub seen : List (Option Label) → LabelsView
seen items = record { present = somes items; opened = length items }

-- the same list in front of a last element
pub push_same : (xs ys : List Label) (x y : Label) → xs ++ x ∷ [] ≡ ys ++ y ∷ [] → xs ≡ ys
push_same [] [] x y e = refl
push_same [] (b ∷ ys) x y e = let l = ap length e in absurd (omega (arith, l, length-append ys (y ∷ [])))
push_same (a ∷ xs) [] x y e = let l = ap length e in absurd (omega (arith, l, length-append xs (x ∷ [])))
push_same (a ∷ xs) (b ∷ ys) x y e =
    let rest : xs ++ x ∷ [] ≡ ys ++ y ∷ [] = cc e in
    let head : a ≡ b = cc e in
    ap (λ (l : List Label). a ∷ l) (push_same xs ys x y rest) ∙ ap (λ (h : Label). h ∷ ys) head

-- where no name was read there is no label
not_named : (item : Option Label) → None ≡ option_map (λ x. x.label) item → item ≡ None
not_named None none = refl
not_named (Some x) none = absurd (cc none)

-- the label of this name is the first of those that are open
pub record IsFirst (labels : List Label) (label : ℕ) : Type 0 where
  pub x : Label
  pub rest : List Label
  pub open_is : labels ≡ x ∷ rest
  pub found : label_in labels label ≡ Some x
  pub without_is : without_label label labels ≡ rest

-- the last of all that were opened, where it is open
pub last_is : (front : List (Option Label)) (item : Option Label) (first : ℕ) (clients : ℕ → Option ℕ) (xs : List Label) (x : Label)
    → LabelsAreKept (front ++ item ∷ []) first clients → somes (front ++ item ∷ []) ≡ xs ++ x ∷ [] → x.client + 1 ≡ length (front ++ item ∷ [])
    → item ≡ Some x
last_is front item first clients xs x kept is last =
    let more : List (Option Label) = front ++ item ∷ [] in
    let at = is_somewhere more xs [] x is in
    let client : x.client ≡ at.0 = kept.client at.0 x at.1 in
    let place : at.0 ≡ length front = omega (arith, client, last, length-append front (item ∷ [])) in
    let here : item_at more (length front) ≡ item = get_or_at front item [] None (length front) refl in
    sym here ∙ ap (item_at more) (sym place) ∙ at.1

module _ (items : List (Option Label)) (first : ℕ) (clients : ℕ → Option ℕ) (kept : LabelsAreKept items first clients)
    (now : LabelsView) (view_is : seen items ≡ now) where
  pub client_seen : (label : ℕ) → clients label ≡ option_map (λ x. x.client) (label_in now.present label)
  client_seen label =
      subst (λ (v : LabelsView). clients label ≡ option_map (λ x. x.client) (label_in v.present label)) view_is (client_of items first clients kept label)

  pub not_mapped_seen : (label : ℕ) → label_in now.present label ≡ None → clients label ≡ None
  not_mapped_seen label none = client_seen label ∙ ap (option_map (λ (x : Label). x.client)) none

  mapped_by_seen : (label : ℕ) (P : Label → Type 0) (o : Option Label) → label_in now.present label ≡ o → IsSomeAnd o P → IsSome (clients label)
  mapped_by_seen label P None is some = absurd some
  mapped_by_seen label P (Some x) is some = rw (client_seen label, is) refl

  pub mapped_seen : (label : ℕ) (P : Label → Type 0) → IsSomeAnd (label_in now.present label) P → IsSome (clients label)
  mapped_seen label P some = mapped_by_seen label P (label_in now.present label) refl some

  mapped_if : (label : ℕ) (o : Option Label) → label_in now.present label ≡ o → IsSome o → IsSome (clients label)
  mapped_if label None is some = absurd (cc some)
  mapped_if label (Some x) is some = rw (client_seen label, is) refl

  pub is_mapped_seen : (label : ℕ) → IsSome (label_in now.present label) → IsSome (clients label)
  is_mapped_seen label some = mapped_if label (label_in now.present label) refl some

  -- the client of an open label
  pub client_is : (label place : ℕ) (x : Label) → clients label ≡ Some place → label_in now.present label ≡ Some x → place ≡ x.client
  client_is label place x is found =
      some_same place x.client (sym is ∙ client_seen label ∙ ap (option_map (λ (x : Label). x.client)) found)

  -- what was read at the place of an open label
  pub read_at : (label place : ℕ) (item : Option Label) → (is : clients label ≡ Some place) → item ≡ slice_index_or items place item
      → item ≡ Some (stands items first clients kept label place is).x
  read_at label place item is read =
      let s = stands items first clients kept label place is in
      read ∙ get_or_default items place item None s.inside ∙ s.is

  pub read_is : (label place : ℕ) (item : Option Label) → clients label ≡ Some place → item ≡ slice_index_or items place item
      → item ≡ label_in now.present label
  read_is label place item is read =
      let s = stands items first clients kept label place is in
      read_at label place item is read
      ∙ subst (λ (v : LabelsView). ◌≡◌ {A = Option Label} (Some s.x) (label_in v.present label)) view_is (sym s.at.found)

  -- the labels that are seen after another label was written at the place of one
  pub written_seen : (label place : ℕ) (x y : Label) (item : Option Label) → clients label ≡ Some place → label_in now.present label ≡ Some x
      → item ≡ Some y → y.label ≡ label → seen (slice_set items place item) ≡ record now { present = replaced y now.present }
  written_seen label place x y item is found set named =
      let s = stands items first clients kept label place is in
      let len : length (slice_set items place (Some y)) ≡ length items = length-set items place (Some y) in
      let base : seen (slice_set items place (Some y)) ≡ record { present = replaced y (somes items); opened = length items } =
      rw (s.at.replaced_is y named, len) refl in
      rw set (subst (λ (v : LabelsView). seen (slice_set items place (Some y)) ≡ record v { present = replaced y v.present }) view_is base)

  pub written_kept : (label place : ℕ) (y : Label) (item : Option Label) → clients label ≡ Some place → y.label ≡ label → y.client ≡ place
      → item ≡ Some y → LabelsAreKept (slice_set items place item) first clients
  written_kept label place y item is named client set = rw set (kept_changed items first clients kept label place y is named client)

  -- the labels that are seen after one more was opened
  pub opened_seen : (y z : Label) → y ≡ z → seen (items ++ Some y ∷ []) ≡ record { present = now.present ++ z ∷ []; opened = now.opened + 1 }
  opened_seen y z same =
      let len : length (items ++ Some y ∷ []) ≡ length items + 1 = omega (arith, length-append items (Some y ∷ [])) in
      let base : seen (items ++ Some y ∷ []) ≡ record { present = somes items ++ z ∷ []; opened = length items + 1 } = rw (somes-push items y, len, same) refl in
      subst (λ (v : LabelsView). seen (items ++ Some y ∷ []) ≡ record { present = v.present ++ z ∷ []; opened = v.opened + 1 }) view_is base

  -- the labels that are seen after one was closed
  pub closed_seen : (label place : ℕ) → clients label ≡ Some place
      → seen (slice_set items place None) ≡ record now { present = without_label label now.present }
  closed_seen label place is =
      let s = stands items first clients kept label place is in
      let len : length (slice_set items place None) ≡ length items = length-set items place None in
      let base : seen (slice_set items place None) ≡ record { present = without_label label (somes items); opened = length items } =
      rw (s.at.without_is, len) refl in
      subst (λ (v : LabelsView). seen (slice_set items place None) ≡ record v { present = without_label label v.present }) view_is base

  -- ---- the label that was opened first

  before : (place : ℕ) → ((p : ℕ) → first ≤ p → p < place → item_at items p ≡ None) → (p : ℕ) → p < place → item_at items p ≡ None
  before place passed p below = elim (cases_lt p first) [ inl early ↦ kept.closed p early | inr late ↦ passed p late below ]

  pub none_open : (place : ℕ) → ((p : ℕ) → first ≤ p → p < place → item_at items p ≡ None)
      → (place < length items → IsSome (item_at items place)) → None ≡ option_map (λ x. x.label) (item_at items place) → now.present ≡ []
  none_open place passed there none =
      let gone = not_named (item_at items place) none in
      let end : length items ≤ place = elim (cases_lt place (length items)) [ inl inside ↦ absurd (cc (rw gone at (there inside))) | inr end ↦ end ] in
      subst (λ (v : LabelsView). v.present ≡ []) view_is (somes-none items (λ p below. before place passed p (omega arith)))

  pub first_by : (place label : ℕ) (item : Option Label) → item_at items place ≡ item → ((p : ℕ) → first ≤ p → p < place → item_at items p ≡ None)
      → Some label ≡ option_map (λ x. x.label) item → IsFirst (somes items) label
  first_by place label None is passed named = absurd (cc named)
  first_by place label (Some x) is passed named =
      let open_is = somes-first items place x is (before place passed) in
      let same : x.label ≡ label = sym (some_same label x.label named) in
      let e = eq-eqb x.label label same in
      record { x = x; rest = somes (slice_set items place None); open_is = open_is; found = rw (open_is, e) refl; without_is = rw (open_is, e) refl }

  pub is_first : (place label : ℕ) → ((p : ℕ) → first ≤ p → p < place → item_at items p ≡ None)
      → Some label ≡ option_map (λ x. x.label) (item_at items place) → IsFirst (somes items) label
  is_first place label passed named = first_by place label (item_at items place) refl passed named
