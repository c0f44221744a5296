use Rattle.std.proofs.Common.{◌≡◌, ◌∙◌, ap, Bool, true, false, Some, if◌then◌else◌, refl}
use Rattle.es_unsupported.proofs.shapes.shape_at.Goals as goal

-- a row that holds, and one that doesn't
hit : {X : Type 0} (b : Bool) (x y : X) → true ≡ b → x ≡ (if b then x else y)
hit b x y h = λ i. if h i then x else y

miss : {X : Type 0} (b : Bool) (x y z : X) → false ≡ b → z ≡ y → z ≡ (if b then x else y)
miss b x y z h e = e ∙ (λ i. if h i then x else y)

pub returns-then-is_unbuilt : goal.returns-then-is_unbuilt
returns-then-is_unbuilt c = λ o ds up wanted at found. ap Some c.stray_shape.ensures ∙ hit _ _ _ (c.if-is_unbuilt.ensures o ds up wanted)

pub returns-then-is_math_bound : goal.returns-then-is_math_bound
returns-then-is_math_bound c = λ o ds up wanted at found. miss _ _ _ _ (c.if-is_unbuilt.ensures o ds up wanted) (hit _ _ _ (c.if-is_math_bound.ensures o ds up wanted at found))

pub returns-then-is_helper_bound : goal.returns-then-is_helper_bound
returns-then-is_helper_bound c = λ o ds up wanted at found. miss _ _ _ _ (c.if-is_unbuilt.ensures o ds up wanted) (miss _ _ _ _ (c.if-is_math_bound.ensures o ds up wanted at found) (hit _ _ _ (c.if-is_helper_bound.ensures o ds up wanted at found)))

pub returns-then-is_spread_literal : goal.returns-then-is_spread_literal
returns-then-is_spread_literal c = λ o ds up wanted at found. miss _ _ _ _ (c.if-is_unbuilt.ensures o ds up wanted) (miss _ _ _ _ (c.if-is_math_bound.ensures o ds up wanted at found) (miss _ _ _ _ (c.if-is_helper_bound.ensures o ds up wanted at found) (hit _ _ _ (c.if-is_spread_literal.ensures o ds up wanted))))

pub returns-then-is_tag_chain : goal.returns-then-is_tag_chain
returns-then-is_tag_chain c = λ o ds up wanted at found. miss _ _ _ _ (c.if-is_unbuilt.ensures o ds up wanted) (miss _ _ _ _ (c.if-is_math_bound.ensures o ds up wanted at found) (miss _ _ _ _ (c.if-is_helper_bound.ensures o ds up wanted at found) (miss _ _ _ _ (c.if-is_spread_literal.ensures o ds up wanted) (hit _ _ _ (c.if-is_tag_chain.ensures o ds up wanted)))))

pub returns-then-is_head_name : goal.returns-then-is_head_name
returns-then-is_head_name c = λ o ds up wanted at found. miss _ _ _ _ (c.if-is_unbuilt.ensures o ds up wanted) (miss _ _ _ _ (c.if-is_math_bound.ensures o ds up wanted at found) (miss _ _ _ _ (c.if-is_helper_bound.ensures o ds up wanted at found) (miss _ _ _ _ (c.if-is_spread_literal.ensures o ds up wanted) (miss _ _ _ _ (c.if-is_tag_chain.ensures o ds up wanted) (hit _ _ _ (c.if-is_head_name.ensures o ds up wanted))))))

pub returns-then-is_using_function : goal.returns-then-is_using_function
returns-then-is_using_function c = λ o ds up wanted at found. miss _ _ _ _ (c.if-is_unbuilt.ensures o ds up wanted) (miss _ _ _ _ (c.if-is_math_bound.ensures o ds up wanted at found) (miss _ _ _ _ (c.if-is_helper_bound.ensures o ds up wanted at found) (miss _ _ _ _ (c.if-is_spread_literal.ensures o ds up wanted) (miss _ _ _ _ (c.if-is_tag_chain.ensures o ds up wanted) (miss _ _ _ _ (c.if-is_head_name.ensures o ds up wanted) (hit _ _ _ (c.if-is_using_function.ensures o ds up wanted)))))))

pub returns : goal.returns
returns c = λ o ds up wanted at found. miss _ _ _ _ (c.if-is_unbuilt.ensures o ds up wanted) (miss _ _ _ _ (c.if-is_math_bound.ensures o ds up wanted at found) (miss _ _ _ _ (c.if-is_helper_bound.ensures o ds up wanted at found) (miss _ _ _ _ (c.if-is_spread_literal.ensures o ds up wanted) (miss _ _ _ _ (c.if-is_tag_chain.ensures o ds up wanted) (miss _ _ _ _ (c.if-is_head_name.ensures o ds up wanted) (miss _ _ _ _ (c.if-is_using_function.ensures o ds up wanted) refl))))))
