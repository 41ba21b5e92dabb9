use Rattle.signal_layout.proofs.signal.defaults_stand.Goals as goal

pub returns : goal.returns
returns c p t = (λ d. (d.stai, (d.endi, d.strb)), λ s. record { stai = s.0; endi = s.1.0; strb = s.1.1 })
