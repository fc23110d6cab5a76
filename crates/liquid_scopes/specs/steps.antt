pub mod Layers
pub mod LinkLayers
pub mod NamePlaces
pub mod Standing
