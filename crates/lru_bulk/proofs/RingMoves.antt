-- What becomes of a ring where a spot leaves it, joins it, or a range of it goes to its end.
use Rattle.std.proofs.Common.{◌≡◌, ◌≢◌, List, [], ◌∷◌, ◌++◌, sym, ap, ◌∙◌}
use Rattle.std.proofs.lemmas.List.{append-nil}
use Rattle.lru_bulk.specs.Rings.{Path}
use Rattle.lru_bulk.specs.Relinks.{Tied}
use Rattle.lru_bulk.proofs.Paths.{each_of_all, each_map, each_two, each_append, each_left, each_right, NotIn, Distinct, distinct_left, distinct_right, distinct_apart, path_split, path_join, at_source, retarget, frame}

module _ {S : Type 0} where
  -- b stands between u and v, and all other links are kept
  pub record Between (n p n' p' : S → S) (u b v : S) : Type 0 where
    pub next_u : n' u ≡ b
    pub next_b : n' b ≡ v
    pub prev_b : p' b ≡ u
    pub prev_v : p' v ≡ b
    pub nexts : (s : S) → s ≢ u → s ≢ b → n' s ≡ n s
    pub prevs : (s : S) → s ≢ b → s ≢ v → p' s ≡ p s

  -- u leads to v, t to f, and l to z, and all other links are kept
  pub record Spliced (n p n' p' : S → S) (u v t f l z : S) : Type 0 where
    pub next_u : n' u ≡ v
    pub next_t : n' t ≡ f
    pub next_l : n' l ≡ z
    pub prev_v : p' v ≡ u
    pub prev_f : p' f ≡ t
    pub prev_z : p' z ≡ l
    pub nexts : (s : S) → s ≢ u → s ≢ t → s ≢ l → n' s ≡ n s
    pub prevs : (s : S) → s ≢ v → s ≢ f → s ≢ z → p' s ≡ p s

  pub between_from_ties : (n p n1 p1 n' p' : S → S) (u b v : S) → u ≢ b → v ≢ b → Tied n p n1 p1 u b → Tied n1 p1 n' p' b v → Between n p n' p' u b v
  between_from_ties n p n1 p1 n' p' u b v ub vb one two = record {
    next_u = two.nexts u ub ∙ one.next;
    next_b = two.next;
    prev_b = two.prevs b (λ e. vb (sym e)) ∙ one.prev;
    prev_v = two.prev;
    nexts = λ s su sb. two.nexts s sb ∙ one.nexts s su;
    prevs = λ s sb sv. two.prevs s sv ∙ one.prevs s sb;
  }

  pub spliced_from_ties : (n p n1 p1 n2 p2 n' p' : S → S) (u v t f l z : S) → u ≢ t → u ≢ l → t ≢ l → v ≢ f → v ≢ z → f ≢ z
      → Tied n p n1 p1 u v → Tied n1 p1 n2 p2 t f → Tied n2 p2 n' p' l z → Spliced n p n' p' u v t f l z
  spliced_from_ties n p n1 p1 n2 p2 n' p' u v t f l z ut ul tl vf vz fz one two three = record {
    next_u = three.nexts u ul ∙ two.nexts u ut ∙ one.next;
    next_t = three.nexts t tl ∙ two.next;
    next_l = three.next;
    prev_v = three.prevs v vz ∙ two.prevs v vf ∙ one.prev;
    prev_f = three.prevs f fz ∙ two.prev;
    prev_z = three.prev;
    nexts = λ s su st sl. three.nexts s sl ∙ two.nexts s st ∙ one.nexts s su;
    prevs = λ s sv sf sz. three.prevs s sz ∙ two.prevs s sf ∙ one.prevs s sv;
  }

  module _ (n p n' p' : S → S) (z : S) where
    -- b leaves
    pub ring_without : (x : List S) (b : S) (y : List S) → Distinct (z ∷ (x ++ b ∷ y)) → Path n p z (x ++ b ∷ y) z → Tied n p n' p' (p b) (n b) → Path n' p' z (x ++ y) z
    ring_without x b [] d h t =
        let cut = path_split n p z x b [] z h in
        let apart = distinct_apart (z ∷ x) (b ∷ []) d in
        rw append-nil (retarget n p n' p' z b z x (distinct_left (z ∷ x) (b ∷ []) d) cut.0
        (t.next ∙ cut.1.0)
        (ap p' (sym cut.1.0) ∙ t.prev)
        (each_of_all (λ s. s ≢ p b → n' s ≡ n s) t.nexts (z ∷ x))
        (each_map (λ s. s ≢ z) (λ s. p' s ≡ p s) (λ s ne. t.prevs s (λ e. ne (e ∙ cut.1.0))) x (each_left (λ s. s ≢ z) x (b ∷ []) d.0)))
    ring_without x b (w ∷ y) d h t =
        let cut = path_split n p z x b (w ∷ y) z h in
        let apart = distinct_apart (z ∷ x) (b ∷ w ∷ y) d in
        let right = distinct_right (z ∷ x) (b ∷ w ∷ y) d in
        let from : NotIn (p b) (b ∷ w ∷ y) = at_source n p (λ s. NotIn s (b ∷ w ∷ y)) z x b cut.0 apart in
        path_join n' p' z x w y z
        (retarget n p n' p' z b w x (distinct_left (z ∷ x) (b ∷ w ∷ y) d) cut.0
        (t.next ∙ cut.1.0)
        (ap p' (sym cut.1.0) ∙ t.prev)
        (each_of_all (λ s. s ≢ p b → n' s ≡ n s) t.nexts (z ∷ x))
        (each_map (λ s. NotIn s (b ∷ w ∷ y)) (λ s. p' s ≡ p s) (λ s out. t.prevs s (λ e. out.1.0 (sym (e ∙ cut.1.0)))) x apart.1))
        (frame n p n' p' w y z cut.1.2
        (each_map (λ s. s ≢ p b) (λ s. n' s ≡ n s) t.nexts (w ∷ y) from.1)
        (each_map (λ s. s ≢ w) (λ s. p' s ≡ p s) (λ s ne. t.prevs s (λ e. ne (e ∙ cut.1.0))) (y ++ z ∷ [])
        (each_append (λ s. s ≢ w) y (z ∷ []) right.1.0 ((λ e. apart.0.1.0 (sym e)), tt))))

    -- b joins at the end
    pub ring_and_last : (c : List S) (b : S) → Distinct (z ∷ c) → NotIn b (z ∷ c) → Path n p z c z → Between n p n' p' (p z) b z → Path n' p' z (c ++ b ∷ []) z
    ring_and_last c b d out h t =
        path_join n' p' z c b [] z
        (retarget n p n' p' z z b c d h t.next_u t.prev_b
        (each_map (λ s. s ≢ b) (λ s. s ≢ p z → n' s ≡ n s) (λ s ne nu. t.nexts s nu ne) (z ∷ c) out)
        (each_two (λ s. s ≢ z) (λ s. s ≢ b) (λ s. p' s ≡ p s) (λ s nz nb. t.prevs s nb nz) c d.0 out.1))
        (t.next_b, t.prev_v)

    -- b joins after w
    pub ring_behind : (x : List S) (w : S) (y : List S) (b : S) → Distinct (z ∷ (x ++ w ∷ y)) → NotIn b (z ∷ (x ++ w ∷ y)) → Path n p z (x ++ w ∷ y) z
        → Between n p n' p' w b (n w) → Path n' p' z (x ++ w ∷ b ∷ y) z
    ring_behind x w [] b d out h t =
        let cut = path_split n p z x w [] z h in
        let apart = distinct_apart (z ∷ x) (w ∷ []) d in
        let nexts = each_two (λ s. NotIn s (w ∷ [])) (λ s. s ≢ b) (λ s. n' s ≡ n s) (λ s o nb. t.nexts s (λ e. o.0 (sym e)) nb) (z ∷ x)
        apart (each_left (λ s. s ≢ b) (z ∷ x) (w ∷ []) out) in
        let prevs = each_two (λ s. s ≢ z) (λ s. s ≢ b) (λ s. p' s ≡ p s) (λ s nz nb. t.prevs s nb (λ e. nz (e ∙ cut.1.0))) (x ++ w ∷ []) d.0 out.1 in
        path_join n' p' z x w (b ∷ []) z
        (frame n p n' p' z x w cut.0 nexts prevs)
        (t.next_u, t.prev_b, (t.next_b ∙ cut.1.0, ap p' (sym cut.1.0) ∙ t.prev_v))
    ring_behind x w (v ∷ y) b d out h t =
        let cut = path_split n p z x w (v ∷ y) z h in
        let apart = distinct_apart (z ∷ x) (w ∷ v ∷ y) d in
        let right = distinct_right (z ∷ x) (w ∷ v ∷ y) d in
        let out_left = each_left (λ s. s ≢ b) (z ∷ x) (w ∷ v ∷ y) out in
        let out_right = each_right (λ s. s ≢ b) (z ∷ x) (w ∷ v ∷ y) out in
        let nexts = each_two (λ s. NotIn s (w ∷ v ∷ y)) (λ s. s ≢ b) (λ s. n' s ≡ n s) (λ s o nb. t.nexts s (λ e. o.0 (sym e)) nb) (z ∷ x) apart out_left in
        let prevs = each_two (λ s. NotIn s (w ∷ v ∷ y)) (λ s. s ≢ b) (λ s. p' s ≡ p s) (λ s o nb. t.prevs s nb (λ e. o.1.0 (sym (e ∙ cut.1.0)))) x apart.1 out_left.1 in
        let w_kept : p' w ≡ p w = t.prevs w out_right.0 (λ e. right.0.0 (sym (e ∙ cut.1.0))) in
        path_join n' p' z x w (b ∷ v ∷ y) z
        (frame n p n' p' z x w cut.0 nexts (each_append (λ s. p' s ≡ p s) x (w ∷ []) prevs (w_kept, tt))) (
          t.next_u,
          t.prev_b,
          (
            t.next_b ∙ cut.1.0,
            ap p' (sym cut.1.0) ∙ t.prev_v,
            frame n p n' p' v y z cut.1.2
                (each_two (λ s. s ≢ w) (λ s. s ≢ b) (λ s. n' s ≡ n s) t.nexts (v ∷ y) right.0 out_right.1)
                (each_append (λ s. p' s ≡ p s) y (z ∷ [])
                (each_two (λ s. s ≢ v) (λ s. s ≢ b) (λ s. p' s ≡ p s) (λ s nv nb. t.prevs s nb (λ e. nv (e ∙ cut.1.0))) y right.1.0 out_right.1.1)
                (t.prevs z out.0 (λ e. apart.0.1.0 (sym (e ∙ cut.1.0))), tt)),
          ),
        )

    -- the range from f to the one before v goes to the end
    pub ring_splice : (x : List S) (f : S) (r : List S) (v : S) (y : List S) → Distinct (z ∷ (x ++ f ∷ (r ++ v ∷ y))) → Path n p z (x ++ f ∷ (r ++ v ∷ y)) z
        → Spliced n p n' p' (p f) v (p z) f (p v) z → Path n' p' z (x ++ v ∷ (y ++ f ∷ r)) z
    ring_splice x f r v y d h t =
        let one = path_split n p z x f (r ++ v ∷ y) z h in
        let two = path_split n p f r v y z one.1 in
        let apart1 = distinct_apart (z ∷ x) (f ∷ (r ++ v ∷ y)) d in
        let d2 = distinct_right (z ∷ x) (f ∷ (r ++ v ∷ y)) d in
        let apart2 = distinct_apart (f ∷ r) (v ∷ y) d2 in
        let d3 = distinct_right (f ∷ r) (v ∷ y) d2 in
        -- where the three sources are not
        let Left : S → Type 0 = λ s. NotIn s (f ∷ (r ++ v ∷ y)) in
        let l_not : Left (p f) = at_source n p Left z x f one.0 apart1 in
        let m_not : NotIn (p v) (v ∷ y) = at_source n p (λ s. NotIn s (v ∷ y)) f r v two.0 apart2 in
        let swap_apart : (s : S) → Left s → s ≢ p v = λ s o. at_source n p (λ u. s ≢ u) f r v two.0 (each_map (λ u. u ≢ s) (λ u. s ≢ u) (λ u ne e. ne (sym e)) (f ∷ r) (each_left (λ u. u ≢ s) (f ∷ r) (v ∷ y) o)) in
        let swap_last : (s : S) → NotIn s (v ∷ y) → s ≢ p z = λ s o. at_source n p (λ u. s ≢ u) v y z two.1 (each_map (λ u. u ≢ s) (λ u. s ≢ u) (λ u ne e. ne (sym e)) (v ∷ y) o) in
        let right_of : (s : S) → Left s → NotIn s (v ∷ y) = λ s o. each_right (λ u. u ≢ s) (f ∷ r) (v ∷ y) o in
        let v_not_z : v ≢ z = (right_of z apart1.0).0 in
        let f_not_z : f ≢ z = apart1.0.0 in
        let v_not_f : v ≢ f = apart2.0.0 in
        let first = retarget n p n' p' z f v x (distinct_left (z ∷ x) (f ∷ (r ++ v ∷ y)) d) one.0 t.next_u t.prev_v
        (each_map Left (λ s. s ≢ p f → n' s ≡ n s) (λ s o nu. t.nexts s nu (swap_last s (right_of s o)) (swap_apart s o)) (z ∷ x) apart1)
        (each_two Left (λ s. s ≢ z) (λ s. p' s ≡ p s) (λ s o nz. t.prevs s (λ e. (right_of s o).0 (sym e)) (λ e. o.0 (sym e)) nz) x apart1.1 (each_left (λ s. s ≢ z) x (f ∷ (r ++ v ∷ y)) d.0)) in
        let mid_z = each_right (λ s. s ≢ z) x (f ∷ (r ++ v ∷ y)) d.0 in
        let middle = retarget n p n' p' f v z r (distinct_left (f ∷ r) (v ∷ y) d2) two.0 t.next_l t.prev_z
        (each_two (λ s. NotIn s (v ∷ y)) (λ s. s ≢ p f) (λ s. s ≢ p v → n' s ≡ n s) (λ s o nu nl. t.nexts s nu (swap_last s o) nl) (f ∷ r) apart2 (each_left (λ s. s ≢ p f) (f ∷ r) (v ∷ y) l_not))
        (each_two (λ s. NotIn s (v ∷ y)) (λ s. (s ≢ z) × (s ≢ f)) (λ s. p' s ≡ p s) (λ s o k. t.prevs s (λ e. o.0 (sym e)) k.1 k.0) r apart2.1
        (each_two (λ s. s ≢ z) (λ s. s ≢ f) (λ s. (s ≢ z) × (s ≢ f)) (λ s a b. (a, b)) r (each_left (λ s. s ≢ z) (f ∷ r) (v ∷ y) mid_z).1 (each_left (λ s. s ≢ f) r (v ∷ y) d2.0))) in
        let last = retarget n p n' p' v z f y d3 two.1 t.next_t t.prev_f
        (each_two (λ s. s ≢ p f) (λ s. s ≢ p v) (λ s. s ≢ p z → n' s ≡ n s) (λ s nu nl nt. t.nexts s nu nt nl) (v ∷ y) (each_right (λ s. s ≢ p f) (f ∷ r) (v ∷ y) l_not) m_not)
        (each_two (λ s. s ≢ v) (λ s. (s ≢ z) × (s ≢ f)) (λ s. p' s ≡ p s) (λ s nv k. t.prevs s nv k.1 k.0) y d3.0
        (each_two (λ s. s ≢ z) (λ s. s ≢ f) (λ s. (s ≢ z) × (s ≢ f)) (λ s a b. (a, b)) y (each_right (λ s. s ≢ z) (f ∷ r) (v ∷ y) mid_z).1 (each_right (λ s. s ≢ f) r (v ∷ y) d2.0).1)) in
        path_join n' p' z x v (y ++ f ∷ r) z first (path_join n' p' v y f r z last middle)

    -- the spots that a splice touches are different
    pub record SpliceApart (x : List S) (f : S) (r : List S) (v : S) (y : List S) : Type 0 where
      pub ut : p f ≢ p z
      pub ul : p f ≢ p v
      pub tl : p z ≢ p v
      pub vf : v ≢ f
      pub vz : v ≢ z
      pub fz : f ≢ z

    pub splice_apart : (x : List S) (f : S) (r : List S) (v : S) (y : List S) → Distinct (z ∷ (x ++ f ∷ (r ++ v ∷ y))) → Path n p z (x ++ f ∷ (r ++ v ∷ y)) z → SpliceApart x f r v y
    splice_apart x f r v y d h =
        let one = path_split n p z x f (r ++ v ∷ y) z h in
        let two = path_split n p f r v y z one.1 in
        let apart1 = distinct_apart (z ∷ x) (f ∷ (r ++ v ∷ y)) d in
        let d2 = distinct_right (z ∷ x) (f ∷ (r ++ v ∷ y)) d in
        let apart2 = distinct_apart (f ∷ r) (v ∷ y) d2 in
        let l_not : NotIn (p f) (f ∷ (r ++ v ∷ y)) = at_source n p (λ s. NotIn s (f ∷ (r ++ v ∷ y))) z x f one.0 apart1 in
        let m_not : NotIn (p v) (v ∷ y) = at_source n p (λ s. NotIn s (v ∷ y)) f r v two.0 apart2 in
        let z_not : NotIn z (f ∷ (r ++ v ∷ y)) = apart1.0 in
        record {
          ut = λ e. at_source n p (λ s. s ≢ p f) v y z two.1 (each_right (λ s. s ≢ p f) (f ∷ r) (v ∷ y) l_not) (sym e);
          ul = λ e. at_source n p (λ s. s ≢ p f) f r v two.0 (each_left (λ s. s ≢ p f) (f ∷ r) (v ∷ y) l_not) (sym e);
          tl = at_source n p (λ s. s ≢ p v) v y z two.1 m_not;
          vf = apart2.0.0;
          vz = (each_right (λ s. s ≢ z) (f ∷ r) (v ∷ y) z_not).0;
          fz = z_not.0;
        }
