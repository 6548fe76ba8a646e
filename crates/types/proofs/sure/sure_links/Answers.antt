use mathlib.Core.Logic.{inl, inr}
use Rattle.jer.specs.Table.{table}
use Rattle.types.proofs.RowLaws.{layout-told}
use Rattle.types.proofs.SureLaws.{lists_room, names-room}
use Rattle.types.proofs.SureMembers.{links-bare, links-element, links-member, links-unknown}
use Rattle.types.proofs.sure.sure_links.Goals as goal

pub holds_type-requires : goal.holds_type-requires
holds_type-requires c =
    let a = c.args in
    let ns = a.names.now in
    let t = table a.rows.now ns in
    let e = c.row_in-row.ensures ns in
    let l = layout-told t a.r e c.carries.ensures in
    let g = c.requires.1 a.r c.requires.0 in
    elim c.in-Lists.is [ inl k ↦ lists_room t a.r e g l k c.wide.ensures.0 | inr k ↦ names-room t a.r e g l k c.wide.ensures.0 ]

pub returns-in-Bare : goal.returns-in-Bare
returns-in-Bare c =
    let a = c.args in
    let ns = a.names.now in
    let t = table a.rows.now ns in
    let e = c.row_in-row.ensures ns in
    let l = layout-told t a.r e c.carries.ensures in
    λ q. elim c.in-Bare.is [ inl k ↦ links-bare t a.r e l k | inr k ↦ links-unknown t a.r e l k ]

pub returns-in-Holds : goal.returns-in-Holds
returns-in-Holds c = c.sure_holder.ensures

pub returns-in-Lists : goal.returns-in-Lists
returns-in-Lists c =
    let a = c.args in
    let ns = a.names.now in
    let t = table a.rows.now ns in
    let e = c.row_in-row.ensures ns in
    let l = layout-told t a.r e c.carries.ensures in
    λ q. elim c.in-Lists.is
    [ inl k ↦ links-element t a.r e l c.wide.ensures.0 (c.holds_type.ensures ns) k q | inr k ↦ links-member t a.r e l c.wide.ensures.0 (c.holds_type.ensures ns) k q ]
