-- NV indexes, of which the least is looked for in the order in which they were defined.
use Rattle.std.proofs.Common.{◌≡◌, ◌+◌, ◌<◌, ℕ, List, [], ◌∷◌, length, take, get_or, map, refl, ap, sym, ◌∙◌, arith}
use Rattle.std.specs.Prelude.{Option}
use Rattle.std.proofs.lemmas.List.{get_or-map, length-map}
use Rattle.std.proofs.lemmas.List.Sums.{fold_more}
use Rattle.tab_spec.specs.NvIndex as nv_index
use Rattle.tab_values.specs.declared.nv_index.NvIndex.{NvIndex}
use Rattle.tab_values.specs.Views.{nv_index_of}
use Rattle.effect_spec.specs.Capabilities.{inserted, upwards}
use Rattle.fx_capability.specs.Lists.{number_from, lesser}
use Rattle.fx_capability.proofs.Lists.{inserted_first}

abbrev pub handles : List nv_index.NvIndex → List ℕ
handles nv = map (λ (item : nv_index.NvIndex). item.public.index) nv

-- with one more the least is the lesser of both
least_more : (least : ℕ) (numbers : List ℕ) (i n : ℕ) → i < length numbers → get_or numbers i n ≡ n
    → number_from least (upwards (take (i + 1) numbers)) ≡ lesser least (number_from least (upwards (take i numbers))) n
least_more least numbers i n within is =
    ap (number_from least) (fold_more inserted [] numbers i n within)
    ∙ inserted_first least (get_or numbers i n) (upwards (take i numbers))
    ∙ ap (lesser least (number_from least (upwards (take i numbers)))) is

handles_shown : (indexes : List NvIndex) → handles (map nv_index_of indexes) ≡ map (λ (item : NvIndex). item.public.index) indexes
handles_shown [] = refl
handles_shown (item ∷ indexes) = ap (λ (rest : List ℕ). item.public.index ∷ rest) (handles_shown indexes)

-- the same of the indexes as they are kept
pub index_more : (least : ℕ) (indexes : List NvIndex) (nv : List nv_index.NvIndex) (i : ℕ) (item : NvIndex) (found : Option ℕ) → map nv_index_of indexes ≡ nv
    → i < length indexes → item ≡ get_or indexes i item → found ≡ number_from least (upwards (take i (handles nv)))
    → lesser least found item.public.index ≡ number_from least (upwards (take (i + 1) (handles nv)))
index_more least indexes nv i item found shown within is before =
    let numbers = map (λ (x : NvIndex). x.public.index) indexes in
    let same : handles nv ≡ numbers = ap handles (sym shown) ∙ handles_shown indexes in
    let many : i < length numbers = omega (arith, within, length-map indexes (λ (x : NvIndex). x.public.index)) in
    let here : get_or numbers i item.public.index ≡ item.public.index =
    get_or-map (λ (x : NvIndex). x.public.index) indexes i item item.public.index within ∙ ap (λ (x : NvIndex). x.public.index) (sym is) in
    ap (λ (o : Option ℕ). lesser least o item.public.index) (before ∙ ap (λ (xs : List ℕ). number_from least (upwards (take i xs))) same)
    ∙ sym (least_more least numbers i item.public.index many here)
    ∙ sym (ap (λ (xs : List ℕ). number_from least (upwards (take (i + 1) xs))) same)
