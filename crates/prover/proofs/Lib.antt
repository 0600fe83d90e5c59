mod Buffers
mod Items
mod Steps
mod Trails
mod Settling
mod Readings
