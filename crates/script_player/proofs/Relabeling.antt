-- What is left of the open labels where one of them is found, known otherwise or closed.
use Rattle.std.proofs.Common.{◌≡◌, ◌<◌, ◌≤◌, ◌+◌, ℕ, Bool, true, false, cond, eqb, List, [], ◌∷◌, ◌++◌, Option, Some, None, refl, sym, ap, subst, ◌∙◌, eq-eqb, arith}
use Rattle.std.specs.Prelude.{◌||◌, map, is_some, IsSome, IsSomeAnd}
use Rattle.std.specs.Option.{option_map}
use Rattle.std.specs.List.{AllByRecursion, list_any}
use Rattle.std.proofs.lemmas.Bool.{eqb-true}
use Rattle.history_spec.specs.Entry.{without}
use Rattle.script_spec.specs.Plays.{LabelHolder, client_of}
use Rattle.script_spec.specs.Plays as plays
use Rattle.script_lines.specs.declared.label.Label.{Label}
use Rattle.script_lines.specs.Labels.{label_in, replaced, without_label}
use Rattle.script_player.specs.Play.{holder_of, ClientsRise}

pub same_some : {A : Type 0} {x y : A} → Some x ≡ Some y → x ≡ y
same_some e = cc

pub eqb_refl : (n : ℕ) → eqb n n ≡ true
eqb_refl n = eq-eqb n n refl

pub not_eqb : (m n : ℕ) → (m ≡ n → ⊥) → eqb m n ≡ false
not_eqb m n other =
    elim (eqb m n) as (λ b. eqb m n ≡ b → b ≡ false) [
      | true ↦ λ same. absurd (other (eqb-true m n same))
      | false ↦ λ same. refl
    ] refl

or_true : (b : Bool) → (b || true) ≡ true
or_true true = refl
or_true false = refl

pub map-push : {A B : Type 0} (f : A → B) (xs : List A) (x : A) → map f (xs ++ x ∷ []) ≡ map f xs ++ f x ∷ []
map-push f [] x = refl
map-push f (y ∷ ys) x = ap (λ (rest : List _). f y ∷ rest) (map-push f ys x)

pub each-push : {X : Type 0} (P : X → Type 0) (xs : List X) (x : X) → AllByRecursion P xs → P x → AllByRecursion P (xs ++ x ∷ [])
each-push P [] x all here = (here, tt)
each-push P (y ∷ ys) x all here = (all.0, each-push P ys x all.1 here)

pub each-weaker : {X : Type 0} (P Q : X → Type 0) (xs : List X) → ((x : X) → P x → Q x) → AllByRecursion P xs → AllByRecursion Q xs
each-weaker P Q [] weaker all = tt
each-weaker P Q (x ∷ xs) weaker all = (weaker x all.0, each-weaker P Q xs weaker all.1)

-- ---- a label that is found

-- the label that is found is one of them
pub record IsFound (labels : List Label) (label : ℕ) (x : Label) : Type 0 where
  pub label_is : x.label ≡ label
  pub holder : client_of (map holder_of labels) label ≡ Some x.client
  pub present : list_any (λ c. eqb c x.client) (map (λ y. y.client) labels) ≡ true

pub is_found : (labels : List Label) (label : ℕ) (x : Label) → label_in labels label ≡ Some x → IsFound labels label x
is_found [] label x e = absurd cc
is_found (y ∷ ys) label x e =
    elim (eqb y.label label) as (λ b. eqb y.label label ≡ b → cond b (Some y) (label_in ys label) ≡ Some x → IsFound (y ∷ ys) label x) [
      | true ↦ λ same h.
          let is_y : y ≡ x = same_some h in
          subst (λ (z : Label). IsFound (y ∷ ys) label z) is_y (record {
            label_is = eqb-true _ _ same;
            holder = rw same refl;
            present = rw eqb_refl refl;
          })
      | false ↦ λ other h.
          let rest = is_found ys label x h in
          record {
            label_is = rest.label_is;
            holder = rw other rest.holder;
            present = rw rest.present (or_true (eqb y.client x.client));
          }
    ] refl e

-- what holds of each label holds of the one that is found
pub of_found : (P : Label → Type 0) (labels : List Label) (label : ℕ) (x : Label) → AllByRecursion P labels → label_in labels label ≡ Some x → P x
of_found P [] label x all e = absurd cc
of_found P (y ∷ ys) label x all e =
    elim (eqb y.label label) as (λ b. cond b (Some y) (label_in ys label) ≡ Some x → P x) [
      | true ↦ λ h. subst P (same_some h) all.0
      | false ↦ λ h. of_found P ys label x all.1 h
    ] e

pub found_by_name : (labels : List Label) (label : ℕ) (x : Label) → label_in labels label ≡ Some x → label_in labels x.label ≡ Some x
found_by_name labels label x found = ap (label_in labels) (is_found labels label x found).label_is ∙ found

-- the label that stands last is found there, where it isn't one before
pub label_in-push : (labels : List Label) (x : Label) → label_in labels x.label ≡ None → label_in (labels ++ x ∷ []) x.label ≡ Some x
label_in-push [] x none = rw eqb_refl refl
label_in-push (y ∷ ys) x none =
    elim (eqb y.label x.label) as (λ b. cond b (Some y) (label_in ys x.label) ≡ None → cond b (Some y) (label_in (ys ++ x ∷ []) x.label) ≡ Some x) [
      | true ↦ λ h. absurd cc
      | false ↦ λ h. label_in-push ys x h
    ] none

-- ---- the clients rise

-- the client of a label that is found is one of those that were opened
pub rise-found : (n below : ℕ) (labels : List Label) (label : ℕ) (x : Label) → ClientsRise n labels below → label_in labels label ≡ Some x → (n ≤ x.client) × (x.client < below)
rise-found n below [] label x rise e = absurd cc
rise-found n below (y ∷ ys) label x rise e =
    elim (eqb y.label label) as (λ b. cond b (Some y) (label_in ys label) ≡ Some x → (n ≤ x.client) × (x.client < below)) [
      | true ↦ λ h. let is_y : y ≡ x = same_some h in subst (λ (z : Label). (n ≤ z.client) × (z.client < below)) is_y (rise.0, rise.1)
      | false ↦ λ h. let rest = rise-found (y.client + 1) below ys label x rise.2 h in (omega (arith, rest.0, rise.0), rest.1)
    ] e

pub rise-from : (m n below : ℕ) (labels : List Label) → m ≤ n → ClientsRise n labels below → ClientsRise m labels below
rise-from m n below [] le rise = tt
rise-from m n below (x ∷ xs) le rise = (omega (arith, le, rise.0), rise.1, rise.2)

pub rise-push : (n below : ℕ) (labels : List Label) (x : Label) → ClientsRise n labels below → n ≤ below → x.client ≡ below → ClientsRise n (labels ++ x ∷ []) (below + 1)
rise-push n below [] x rise le is = (omega (arith, le, is), omega (arith, is), tt)
rise-push n below (y ∷ ys) x rise le is = (rise.0, omega (arith, rise.1), rise-push (y.client + 1) below ys x rise.2 (omega (arith, rise.1)) is)

pub rise-replaced : (n below : ℕ) (labels : List Label) (x y : Label) → label_in labels x.label ≡ Some y → x.client ≡ y.client → ClientsRise n labels below → ClientsRise n (replaced x labels) below
rise-replaced n below [] x y found same rise = absurd cc
rise-replaced n below (z ∷ zs) x y found same rise =
    elim (eqb z.label x.label) as (λ b. cond b (Some z) (label_in zs x.label) ≡ Some y → ClientsRise n (cond b (x ∷ zs) (z ∷ replaced x zs)) below) [
      | true ↦ λ h.
          let client : x.client ≡ z.client = same ∙ ap (λ (l : Label). l.client) (sym (same_some h)) in
          rw client (rise.0, rise.1, rise.2)
      | false ↦ λ h. (rise.0, rise.1, rise-replaced (z.client + 1) below zs x y h same rise.2)
    ] found

pub rise-without : (n below label : ℕ) (labels : List Label) → ClientsRise n labels below → ClientsRise n (without_label label labels) below
rise-without n below label [] rise = tt
rise-without n below label (x ∷ xs) rise =
    elim (eqb x.label label) as
    (λ b. ClientsRise n (cond b xs (x ∷ without_label label xs)) below) [
      | true ↦ rise-from n (x.client + 1) below xs (omega (arith, rise.0)) rise.2
      | false ↦ (rise.0, rise.1, rise-without (x.client + 1) below label xs rise.2)
    ]

-- ---- a label that is known otherwise now

-- what is told of each label alike is told of the others as before
pub map-replaced : {A : Type 0} (f : Label → A) (labels : List Label) (x y : Label) → label_in labels x.label ≡ Some y → f x ≡ f y → map f (replaced x labels) ≡ map f labels
map-replaced f [] x y found same = absurd cc
map-replaced f (z ∷ zs) x y found same =
    elim (eqb z.label x.label) as (λ b. cond b (Some z) (label_in zs x.label) ≡ Some y → map f (cond b (x ∷ zs) (z ∷ replaced x zs)) ≡ f z ∷ map f zs) [
      | true ↦ λ h. ap (λ (first : _). first ∷ map f zs) (same ∙ ap f (sym (same_some h)))
      | false ↦ λ h. ap (λ (rest : List _). f z ∷ rest) (map-replaced f zs x y h same)
    ] found

pub found-replaced : (labels : List Label) (x y : Label) → label_in labels x.label ≡ Some y → label_in (replaced x labels) x.label ≡ Some x
found-replaced [] x y found = absurd cc
found-replaced (z ∷ zs) x y found =
    elim (eqb z.label x.label) as (λ b. eqb z.label x.label ≡ b → cond b (Some z) (label_in zs x.label) ≡ Some y → label_in (cond b (x ∷ zs) (z ∷ replaced x zs)) x.label ≡ Some x) [
      | true ↦ λ is h. rw eqb_refl refl
      | false ↦ λ is h. rw is (found-replaced zs x y h)
    ] refl found

pub replaced-twice : (labels : List Label) (x z : Label) → z.label ≡ x.label → replaced z (replaced x labels) ≡ replaced z labels
replaced-twice [] x z same = refl
replaced-twice (y ∷ ys) x z same =
    let here : eqb x.label z.label ≡ true = eq-eqb x.label z.label (sym same) in
    elim (eqb y.label x.label) as (λ b. eqb y.label x.label ≡ b → replaced z (cond b (x ∷ ys) (y ∷ replaced x ys)) ≡ replaced z (y ∷ ys)) [
      | true ↦ λ is. let there : eqb y.label z.label ≡ true = ap (eqb y.label) same ∙ is in rw (here, there) refl
      | false ↦ λ is. let there : eqb y.label z.label ≡ false = ap (eqb y.label) same ∙ is in rw there (ap (λ (ls : List Label). y ∷ ls) (replaced-twice ys x z same))
    ] refl

pub replaced-itself : (labels : List Label) (x : Label) → label_in labels x.label ≡ Some x → replaced x labels ≡ labels
replaced-itself [] x found = absurd cc
replaced-itself (y ∷ ys) x found =
    elim (eqb y.label x.label) as (λ b. cond b (Some y) (label_in ys x.label) ≡ Some x → cond b (x ∷ ys) (y ∷ replaced x ys) ≡ y ∷ ys) [
      | true ↦ λ h. ap (λ (z : Label). z ∷ ys) (sym (same_some h))
      | false ↦ λ h. ap (λ (ls : List Label). y ∷ ls) (replaced-itself ys x h)
    ] found

pub all-replaced : (P : Label → Type 0) (labels : List Label) (x : Label) → AllByRecursion P labels → P x → AllByRecursion P (replaced x labels)
all-replaced P [] x all p = tt
all-replaced P (y ∷ ys) x all p =
    elim (eqb y.label x.label) as (λ b. AllByRecursion P (cond b (x ∷ ys) (y ∷ replaced x ys))) [
      | true ↦ (p, all.1)
      | false ↦ (all.0, all-replaced P ys x all.1 p)
    ]

pub without-replaced : (labels : List Label) (x : Label) → without_label x.label (replaced x labels) ≡ without_label x.label labels
without-replaced [] x = refl
without-replaced (y ∷ ys) x =
    elim (eqb y.label x.label) as (λ b. eqb y.label x.label ≡ b → without_label x.label (cond b (x ∷ ys) (y ∷ replaced x ys)) ≡ cond b ys (y ∷ without_label x.label ys)) [
      | true ↦ λ is. rw eqb_refl refl
      | false ↦ λ is. rw is (ap (λ (ls : List Label). y ∷ ls) (without-replaced ys x))
    ] refl

-- ---- a label that is closed

pub without-none : (labels : List Label) (label : ℕ) → label_in labels label ≡ None → without_label label labels ≡ labels
without-none [] label none = refl
without-none (x ∷ xs) label none =
    elim (eqb x.label label) as (λ b. cond b (Some x) (label_in xs label) ≡ None → cond b xs (x ∷ without_label label xs) ≡ x ∷ xs) [
      | true ↦ λ h. absurd cc
      | false ↦ λ h. ap (λ (ls : List Label). x ∷ ls) (without-none xs label h)
    ] none

pub all-without : (P : Label → Type 0) (label : ℕ) (labels : List Label) → AllByRecursion P labels → AllByRecursion P (without_label label labels)
all-without P label [] all = tt
all-without P label (x ∷ xs) all =
    elim (eqb x.label label) as (λ b. AllByRecursion P (cond b xs (x ∷ without_label label xs))) [
      | true ↦ all.1
      | false ↦ (all.0, all-without P label xs all.1)
    ]

pub holders-without : (label : ℕ) (labels : List Label) → map holder_of (without_label label labels) ≡ plays.without_label label (map holder_of labels)
holders-without label [] = refl
holders-without label (x ∷ xs) =
    elim (eqb x.label label) as (λ b. map holder_of (cond b xs (x ∷ without_label label xs)) ≡ cond b (map holder_of xs) (holder_of x ∷ plays.without_label label (map holder_of xs))) [
      | true ↦ refl
      | false ↦ ap (λ (hs : List LabelHolder). holder_of x ∷ hs) (holders-without label xs)
    ]

pub names-without : (label : ℕ) (labels : List Label) → map (λ x. x.label) (without_label label labels) ≡ without label (map (λ x. x.label) labels)
names-without label [] = refl
names-without label (x ∷ xs) =
    elim (eqb x.label label) as (λ b. map (λ y. y.label) (cond b xs (x ∷ without_label label xs)) ≡ cond b (map (λ y. y.label) xs) (x.label ∷ without label (map (λ y. y.label) xs))) [
      | true ↦ refl
      | false ↦ ap (λ (ns : List ℕ). x.label ∷ ns) (names-without label xs)
    ]

-- the clients are those of the others, since no two labels have one
pub clients-without : (n below : ℕ) (labels : List Label) (label : ℕ) (x : Label) → ClientsRise n labels below → label_in labels label ≡ Some x
    → map (λ y. y.client) (without_label label labels) ≡ without x.client (map (λ y. y.client) labels)
clients-without n below [] label x rise found = absurd cc
clients-without n below (y ∷ ys) label x rise found =
    elim (eqb y.label label) as (λ b. cond b (Some y) (label_in ys label) ≡ Some x
    → map (λ z. z.client) (cond b ys (y ∷ without_label label ys)) ≡ cond (eqb y.client x.client) (map (λ z. z.client) ys) (y.client ∷ without x.client (map (λ z. z.client) ys))) [
      | true ↦ λ h.
          let same : eqb y.client x.client ≡ true = eq-eqb y.client x.client (ap (λ (l : Label). l.client) (same_some h)) in
          rw same refl
      | false ↦ λ h.
          let above = rise-found (y.client + 1) below ys label x rise.2 h in
          let other : eqb y.client x.client ≡ false = not_eqb y.client x.client (λ same. omega (arith, above.0, same)) in
          rw other (ap (λ (ns : List ℕ). y.client ∷ ns) (clients-without (y.client + 1) below ys label x rise.2 h))
    ] found

pub is_label : (o : Option Label) → IsSome o → (x : Label) × (o ≡ Some x)
is_label None some = absurd cc
is_label (Some x) some = (x, refl)

pub some_label : (P : Label → Type 0) (o : Option Label) → IsSomeAnd o P → (x : Label) × (o ≡ Some x) × P x
some_label P None is = absurd is
some_label P (Some x) is = (x, refl, is)

-- whether a label is open, as its client tells
pub no_client : (o : Option Label) (client : Option ℕ) → client ≡ option_map (λ x. x.client) o → is_some client ≡ false → o ≡ None
no_client None client is none = refl
no_client (Some x) client is none = absurd (let some : is_some client ≡ true = ap is_some is in cc)

pub has_client : (o : Option Label) (client : Option ℕ) → client ≡ option_map (λ x. x.client) o → is_some client ≡ true → (x : Label) × (o ≡ Some x)
has_client None client is some = absurd (let none : is_some client ≡ false = ap is_some is in cc)
has_client (Some x) client is some = (x, refl)
