use Rattle.std.proofs.Common.{◌≡◌, ◌+◌, ◌-◌, ◌*◌, subst, sym, ◌∙◌, arith}
use Rattle.argb_pixel.specs.Pixel.{Argb, IsPremultiplied, rounded}
use Rattle.argb_pixel.proofs.Channels.{depth_pos, same_argb}
use Rattle.transfer_mode.proofs.Over.{over_is, over_premultiplied, normal-over}
use Rattle.transfer_mode.proofs.transfer.OverCombine.combine.Goals as goal

-- the four channels are those of the blend
same : (m : _) (s d : Argb) (a r g b sa sr sg sb da dr dg db : _)
    → a ≡ sa + rounded (da * (m - sa)) m → r ≡ sr + rounded (dr * (m - sa)) m → g ≡ sg + rounded (dg * (m - sa)) m
    → b ≡ sb + rounded (db * (m - sa)) m → sa ≡ s.a → sr ≡ s.r → sg ≡ s.g → sb ≡ s.b → da ≡ d.a → dr ≡ d.r → dg ≡ d.g → db ≡ d.b
    → (let x : Argb = record { a = a; r = r; g = g; b = b } in x ≡ over_is m s d)
same m s d a r g b sa sr sg sb da dr dg db ea er eg eb isa isr isg isb ida idr idg idb =
    same_argb a _ r _ g _ b _ (cc (ea, isa, ida)) (cc (er, isa, isr, idr)) (cc (eg, isa, isg, idg)) (cc (eb, isa, isb, idb))

pub of_channels-requires : goal.of_channels-requires
of_channels-requires g c =
    let is = same g.row.MAX c.args.s c.args.d _ _ _ _ _ _ _ _ _ _ _ _ c.over_channel.ensures c.over_channel-2.ensures c.over_channel-3.ensures c.over_channel-4.ensures
    c.a-sa.ensures.value c.r.ensures.value c.g.ensures.value c.b.ensures.value c.a.ensures.value c.r-2.ensures.value c.g-2.ensures.value c.b-2.ensures.value in
    let fits = over_premultiplied g.row.MAX c.args.s c.args.d (depth_pos _ c.requires) c.a-sa.ensures.premultiplied c.a.ensures.premultiplied in
    (omega arith, (c.requires, subst (λ (p : Argb). IsPremultiplied g.row.MAX p) (sym is) fits))

pub returns : goal.returns
returns g c =
    let is = same g.row.MAX c.args.s c.args.d _ _ _ _ _ _ _ _ _ _ _ _ c.over_channel.ensures c.over_channel-2.ensures c.over_channel-3.ensures c.over_channel-4.ensures
    c.a-sa.ensures.value c.r.ensures.value c.g.ensures.value c.b.ensures.value c.a.ensures.value c.r-2.ensures.value c.g-2.ensures.value c.b-2.ensures.value in
    c.of_channels.ensures ∙ is ∙ normal-over g.row.MAX c.args.s c.args.d (depth_pos _ c.requires) c.a.ensures.premultiplied
