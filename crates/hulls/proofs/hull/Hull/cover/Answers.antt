-- The vertices that stay and the new one are the hull.
use Rattle.std.proofs.Common.{◌∙◌, ap, arith, length, ◌+◌, ◌++◌, ◌∷◌, [], List}
use Rattle.hulls.specs.declared.vertex.Vertex.{Vertex}
use Rattle.hulls.specs.Vertices.{vertex_of}
use Rattle.hulls.proofs.HullSteps.{left_of_next, IsHullOf-covers, last_of-covers, grown_length}
use Rattle.hulls.proofs.hull.Hull.cover.Goals as goal

pub kept_before-kept-requires-clause-left : goal.kept_before-kept-requires-clause-left
kept_before-kept-requires-clause-left g c =
    rw c.deref.ensures.value
    (left_of_next c.requires.next.0 c.requires.next.1 c.requires.next.2 c.requires.next.3 c.requires.next.4
    (c.requires.next.4 + 1) c.args.self.now
    (vertex_of c.args.x c.args.height c.args.place) c.requires.next.5 c.requires.next.6 c.requires.next.7)

pub returns-clause-hull : goal.returns-clause-hull
returns-clause-hull g c = λ q eps s e m further is new spanned.
    let kept = c.kept_before-kept in
    let facts = rw c.deref.ensures.value at kept.ensures in
    IsHullOf-covers q eps s e m kept.result c.args.self.now (vertex_of c.args.x c.args.height c.args.place)
    c.push_reserved.new.self.items further is new spanned facts.some facts.inside facts.dropped facts.turns
    (c.push_reserved.ensures.items
    ∙ ap (λ (items : List Vertex). items ++ (vertex_of c.args.x c.args.height c.args.place) ∷ [])
    c.truncate.ensures.items)

pub returns-clause-end : goal.returns-clause-end
returns-clause-end g c =
    let kept = c.kept_before-kept in
    let facts = rw c.deref.ensures.value at kept.ensures in
    last_of-covers c.args.self.now.vertices.items c.push_reserved.new.self.items
    (vertex_of c.args.x c.args.height c.args.place) kept.result facts.inside
    (c.push_reserved.ensures.items
    ∙ ap (λ (items : List Vertex). items ++ (vertex_of c.args.x c.args.height c.args.place) ∷ [])
    c.truncate.ensures.items)

pub returns-clause-inside : goal.returns-clause-inside
returns-clause-inside g c =
    let kept = c.kept_before-kept in
    let facts = rw c.deref.ensures.value at kept.ensures in
    let same = c.push_reserved.ensures.items
    ∙ ap (λ (items : List Vertex). items ++ (vertex_of c.args.x c.args.height c.args.place) ∷ [])
    c.truncate.ensures.items in
    omega (
      arith,
      facts.some,
      ap (λ (items : List Vertex). length items) same,
      grown_length
          c.args.self.now.vertices.items (vertex_of c.args.x c.args.height c.args.place) kept.result facts.inside,
    )
