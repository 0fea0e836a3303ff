mod ListLemmas
mod CollisionLemmas
mod PushLemmas
mod RunningLemmas
mod BasisLemmas
