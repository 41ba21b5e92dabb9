mod TypeLemmas
mod WordLemmas
mod NestLemmas
mod SeriesLemmas
mod CompatibleLemmas
mod HeadLemmas
mod LawLemmas
