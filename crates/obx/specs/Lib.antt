pub mod Obx
