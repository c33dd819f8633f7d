-- Members that stand side by side, where one joins or leaves, or others do.
use Rattle.std.proofs.Common.{◌≡◌, Bool, true, false, List, [], ◌∷◌, ◌++◌, cond, Option, refl, sym, ap, subst, ◌∙◌, filter}
use Rattle.std.proofs.lemmas.List.{append_assoc}
use Rattle.std.proofs.lemmas.List.Elements.{filter-append}
use Rattle.ttm_base.specs.declared.BufId.{BufId}
use Rattle.lru_bulk.specs.declared.rings.Range.{Range}
use Rattle.lru_bulk.specs.Rings.{Each}
use Rattle.lru_bulk.specs.Sound.{IsBlock}
use Rattle.lru_bulk.proofs.Paths.{each_map, each_append, each_left, each_right}

pub false_not_true : {P : Type 0} → (x : Bool) → x ≡ true → x ≡ false → P
false_not_true x t f = absurd (let e : true ≡ false = sym t ∙ f in cc)

kept : (P : BufId → Type 0) (b : BufId) (l : List BufId) (k : Bool) → P b → Each P l → Each P (cond k (b ∷ l) l)
kept P b l true h r = (h, r)
kept P b l false h r = r

-- what a filter keeps
each_filter : (P : BufId → Type 0) (keep : BufId → Bool) (l : List BufId) → Each P l → Each P (filter keep l)
each_filter P keep [] h = tt
each_filter P keep (b ∷ l) h = kept P b (filter keep l) (keep b) h.0 (each_filter P keep l h.1)

pub filter_all : (keep : BufId → Bool) (l : List BufId) → Each (λ b. keep b ≡ true) l → filter keep l ≡ l
filter_all keep [] h = refl
filter_all keep (b ∷ l) h = rw (h.0, filter_all keep l h.1) refl

pub filter_none : (keep : BufId → Bool) (l : List BufId) → Each (λ b. keep b ≡ false) l → filter keep l ≡ []
filter_none keep [] h = refl
filter_none keep (b ∷ l) h = rw (h.0, filter_none keep l h.1) refl

-- a list of which others are left out
pub block_filter : (test keep : BufId → Bool) (l : List BufId) (range : Option Range) → ((b : BufId) → test b ≡ true → keep b ≡ true) → IsBlock test l range → IsBlock test (filter keep l) range
block_filter test keep l range kept h = record {
  before = filter keep h.before;
  inside = h.inside;
  after = filter keep h.after;
  split = ap (filter keep) h.split ∙ filter-append keep h.before (h.inside ++ h.after)
      ∙ ap (λ (m : List BufId). filter keep h.before ++ m) (filter-append keep h.inside h.after
      ∙ ap (λ (m : List BufId). m ++ filter keep h.after) (filter_all keep h.inside (each_map (λ b. test b ≡ true) (λ b. keep b ≡ true) kept h.inside h.all_inside)));
  none_before = each_filter (λ b. test b ≡ false) keep h.before h.none_before;
  all_inside = h.all_inside;
  none_after = each_filter (λ b. test b ≡ false) keep h.after h.none_after;
  range_is = h.range_is;
}

-- others after it
pub block_append : (test : BufId → Bool) (l m : List BufId) (range : Option Range) → Each (λ b. test b ≡ false) m → IsBlock test l range → IsBlock test (l ++ m) range
block_append test l m range none h = record {
  before = h.before;
  inside = h.inside;
  after = h.after ++ m;
  split = ap (λ (k : List BufId). k ++ m) h.split ∙ append_assoc h.before (h.inside ++ h.after) m
      ∙ ap (λ (k : List BufId). h.before ++ k) (append_assoc h.inside h.after m);
  none_before = h.none_before;
  all_inside = h.all_inside;
  none_after = each_append (λ b. test b ≡ false) h.after m h.none_after none;
  range_is = h.range_is;
}

-- a test that says the same of each
pub block_agree : (test other : BufId → Bool) (l : List BufId) (range : Option Range) → Each (λ b. other b ≡ test b) l → IsBlock test l range → IsBlock other l range
block_agree test other l range same h =
    let all = subst (Each (λ b. other b ≡ test b)) h.split same in
    let back = each_right (λ b. other b ≡ test b) h.before (h.inside ++ h.after) all in record {
      before = h.before;
      inside = h.inside;
      after = h.after;
      split = h.split;
      none_before = two false h.before (each_left (λ b. other b ≡ test b) h.before (h.inside ++ h.after) all) h.none_before;
      all_inside = two true h.inside (each_left (λ b. other b ≡ test b) h.inside h.after back) h.all_inside;
      none_after = two false h.after (each_right (λ b. other b ≡ test b) h.inside h.after back) h.none_after;
      range_is = h.range_is;
    }
  where
    two : (x : Bool) (m : List BufId) → Each (λ b. other b ≡ test b) m → Each (λ b. test b ≡ x) m → Each (λ b. other b ≡ x) m
    two x [] e f = tt
    two x (b ∷ m) e f = (e.0 ∙ f.0, two x m e.1 f.1)

-- where one that passes stands
pub record Within (inside after x : List BufId) (b : BufId) (y : List BufId) : Type 0 where
  pub front : List BufId
  pub back : List BufId
  pub inside_is : inside ≡ front ++ b ∷ back
  pub before_is : x ≡ front
  pub after_is : y ≡ back ++ after

head_is : (b c : BufId) (l m : List BufId) → b ∷ l ≡ c ∷ m → b ≡ c
head_is b c l m e = cc

tail_is : (b c : BufId) (l m : List BufId) → b ∷ l ≡ c ∷ m → l ≡ m
tail_is b c l m e = cc

locate_inside : (test : BufId → Bool) (inside after x : List BufId) (b : BufId) (y : List BufId) → inside ++ after ≡ x ++ b ∷ y
    → Each (λ c. test c ≡ false) after → test b ≡ true → Within inside after x b y
locate_inside test [] after x b y e none t = false_not_true (test b) t (each_right (λ c. test c ≡ false) x (b ∷ y) (subst (Each (λ c. test c ≡ false)) e none)).0
locate_inside test (k ∷ inside) after [] b y e none t = record {
  front = [];
  back = inside;
  inside_is = ap (λ (c : BufId). c ∷ inside) (head_is k b (inside ++ after) y e);
  before_is = refl;
  after_is = sym (tail_is k b (inside ++ after) y e);
}
locate_inside test (k ∷ inside) after (m ∷ x) b y e none t =
    let r = locate_inside test inside after x b y (tail_is k m (inside ++ after) (x ++ b ∷ y) e) none t in record {
      front = k ∷ r.front;
      back = r.back;
      inside_is = ap (λ (l : List BufId). k ∷ l) r.inside_is;
      before_is = ap (λ (c : BufId). c ∷ x) (sym (head_is k m (inside ++ after) (x ++ b ∷ y) e)) ∙ ap (λ (l : List BufId). k ∷ l) r.before_is;
      after_is = r.after_is;
    }

pub record Found (before inside after x : List BufId) (b : BufId) (y : List BufId) : Type 0 where
  pub front : List BufId
  pub back : List BufId
  pub inside_is : inside ≡ front ++ b ∷ back
  pub before_is : x ≡ before ++ front
  pub after_is : y ≡ back ++ after

pub locate : (test : BufId → Bool) (before inside after x : List BufId) (b : BufId) (y : List BufId) → before ++ (inside ++ after) ≡ x ++ b ∷ y
    → Each (λ c. test c ≡ false) before → Each (λ c. test c ≡ false) after → test b ≡ true → Found before inside after x b y
locate test [] inside after x b y e none1 none2 t =
    let r = locate_inside test inside after x b y e none2 t in record {
      front = r.front;
      back = r.back;
      inside_is = r.inside_is;
      before_is = r.before_is;
      after_is = r.after_is;
    }
locate test (k ∷ before) inside after [] b y e none1 none2 t = false_not_true (test b) t (subst (λ c. test c ≡ false) (head_is k b (before ++ (inside ++ after)) y e) none1.0)
locate test (k ∷ before) inside after (m ∷ x) b y e none1 none2 t =
    let r = locate test before inside after x b y (tail_is k m (before ++ (inside ++ after)) (x ++ b ∷ y) e) none1.1 none2 t in record {
      front = r.front;
      back = r.back;
      inside_is = r.inside_is;
      before_is = ap (λ (c : BufId). c ∷ x) (sym (head_is k m (before ++ (inside ++ after)) (x ++ b ∷ y) e)) ∙ ap (λ (l : List BufId). k ∷ l) r.before_is;
      after_is = r.after_is;
    }

-- one that doesn't pass, put after another such
behind_in_rest : (test : BufId → Bool) (inside after x : List BufId) (w b : BufId) (y : List BufId) → inside ++ after ≡ x ++ w ∷ y
    → Each (λ c. test c ≡ true) inside → Each (λ c. test c ≡ false) after → test w ≡ false → test b ≡ false
    → (rest : List BufId) × (x ++ w ∷ b ∷ y ≡ inside ++ rest) × Each (λ c. test c ≡ false) rest
behind_in_rest test [] after x w b y e all none tw tb =
    let none' = subst (Each (λ c. test c ≡ false)) e none in
    let right = each_right (λ c. test c ≡ false) x (w ∷ y) none' in
    (x ++ w ∷ b ∷ y, refl, each_append (λ c. test c ≡ false) x (w ∷ b ∷ y) (each_left (λ c. test c ≡ false) x (w ∷ y) none') (tw, (tb, right.1)))
behind_in_rest test (k ∷ inside) after [] w b y e all none tw tb = false_not_true (test k) all.0 (ap test (head_is k w (inside ++ after) y e) ∙ tw)
behind_in_rest test (k ∷ inside) after (m ∷ x) w b y e all none tw tb =
    let r = behind_in_rest test inside after x w b y (tail_is k m (inside ++ after) (x ++ w ∷ y) e) all.1 none tw tb in
    (r.0, ap (λ (c : BufId). c ∷ (x ++ w ∷ b ∷ y)) (sym (head_is k m (inside ++ after) (x ++ w ∷ y) e)) ∙ ap (λ (l : List BufId). k ∷ l) r.1, r.2)

pub record Parts (test : BufId → Bool) (l inside : List BufId) : Type 0 where
  pub before : List BufId
  pub after : List BufId
  pub split : l ≡ before ++ (inside ++ after)
  pub none_before : Each (λ b. test b ≡ false) before
  pub none_after : Each (λ b. test b ≡ false) after

behind_in : (test : BufId → Bool) (before inside after x : List BufId) (w b : BufId) (y : List BufId) → before ++ (inside ++ after) ≡ x ++ w ∷ y
    → Each (λ c. test c ≡ false) before → Each (λ c. test c ≡ true) inside → Each (λ c. test c ≡ false) after → test w ≡ false → test b ≡ false
    → Parts test (x ++ w ∷ b ∷ y) inside
behind_in test [] inside after x w b y e none1 all none2 tw tb =
    let r = behind_in_rest test inside after x w b y e all none2 tw tb in
    record { before = []; after = r.0; split = r.1; none_before = tt; none_after = r.2 }
behind_in test (k ∷ before) inside after [] w b y e none1 all none2 tw tb = record {
  before = w ∷ b ∷ before;
  after = after;
  split = ap (λ (l : List BufId). w ∷ b ∷ l) (sym (tail_is k w (before ++ (inside ++ after)) y e));
  none_before = (tw, (tb, none1.1));
  none_after = none2;
}
behind_in test (k ∷ before) inside after (m ∷ x) w b y e none1 all none2 tw tb =
    let r = behind_in test before inside after x w b y (tail_is k m (before ++ (inside ++ after)) (x ++ w ∷ y) e) none1.1 all none2 tw tb in record {
      before = k ∷ r.before;
      after = r.after;
      split = ap (λ (c : BufId). c ∷ (x ++ w ∷ b ∷ y)) (sym (head_is k m (before ++ (inside ++ after)) (x ++ w ∷ y) e)) ∙ ap (λ (l : List BufId). k ∷ l) r.split;
      none_before = (none1.0, r.none_before);
      none_after = r.none_after;
    }

pub block_behind : (test : BufId → Bool) (x : List BufId) (w b : BufId) (y : List BufId) (range : Option Range) → test w ≡ false → test b ≡ false
    → IsBlock test (x ++ w ∷ y) range → IsBlock test (x ++ w ∷ b ∷ y) range
block_behind test x w b y range tw tb h =
    let r = behind_in test h.before h.inside h.after x w b y (sym h.split) h.none_before h.all_inside h.none_after tw tb in record {
      before = r.before;
      inside = h.inside;
      after = r.after;
      split = r.split;
      none_before = r.none_before;
      all_inside = h.all_inside;
      none_after = r.none_after;
      range_is = h.range_is;
    }
