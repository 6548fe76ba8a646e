use mathlib.Core.Logic.{inl, inr}
use Rattle.jer.specs.Table.{table}
use Rattle.types.proofs.RowLaws.{layout-told}
use Rattle.types.proofs.RuleLaws.{pointers-bare, pointers-members, pointers-element, pointers-member, pointers-unknown}
use Rattle.types.proofs.rules.good_pointers.Goals as goal

pub returns-in-Bare : goal.returns-in-Bare
returns-in-Bare c =
    λ ns. let a = c.args in
    let t = table a.rows.now ns in
    let e = c.at-row.ensures ns in
    let l = layout-told t a.r e c.carries.ensures in
    elim c.in-Bare.is [ inl k ↦ pointers-bare t a.r e l k | inr k ↦ pointers-unknown t a.r e l k ]

pub returns-in-Holds : goal.returns-in-Holds
returns-in-Holds c =
    λ ns. let a = c.args in
    let t = table a.rows.now ns in
    let e = c.at-row.ensures ns in
    pointers-members t a.r e (layout-told t a.r e c.carries.ensures) c.in-Holds.is (c.owns_members.ensures ns)

pub returns-in-Lists : goal.returns-in-Lists
returns-in-Lists c =
    λ ns. let a = c.args in
    let t = table a.rows.now ns in
    let e = c.at-row.ensures ns in
    let l = layout-told t a.r e c.carries.ensures in
    let g = c.is_type.ensures _ _ (c.at.ensures ns) in
    elim c.in-Lists.is [ inl k ↦ pointers-element t a.r e l k c.wide.ensures.0 g | inr k ↦ pointers-member t a.r e l k c.wide.ensures.0 g ]
